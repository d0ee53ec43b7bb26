-- DEMAND 3 is proved: every call of a list is an event of the memory that it has to be lent (Lists, Events), so `serial` gives the claim
-- for the system's book, and the plain book is the same book (Shown). What is left here is that the journal of Demand3 is the journal of
-- `serial`, entry by entry.
use Rattle.std.specs.Prelude.{◌≡◌, refl, Bool, true, false, List, [], ◌∷◌, ◌++◌, ℕ, ◌≤◌, eqb, length, take, drop, replicate}
use Rattle.std.proofs.Common.{sym, ◌∙◌, ap₂, subst, arith, eq-eqb, ne_eqb}
use Rattle.std.proofs.Math.Path.{ap}
use Rattle.std.proofs.lemmas.Bool.{false≢true}
use Rattle.std.proofs.Math.Decide.{ℕ_discrete}
use Rattle.std.proofs.Math.ListN.{length-append}
use Rattle.std.proofs.Math.Seq.{take_at}
use Rattle.std.proofs.lemmas.List.{take-append-le}
use Rattle.words.proofs.Tests.{is_true}
use Rattle.words.specs.Choice.{pick}
use Rattle.words.proofs.Choice.{by_pick}
use Rattle.context.specs.Layout.{is_record, record_size}
use Rattle.context.specs.declared.Record.{Record}
use Rattle.requests.specs.declared.EngineRequest.TheVariants as engine
use Rattle.requests.specs.declared.Request.{Request}
use Rattle.requests.specs.declared.Request.TheVariants as request
use Rattle.request_table.specs.Records.{writes_of, record_of}
use Rattle.burst_table.specs.Sizes.{slot_count, room_size}
use Rattle.records.specs.Memory.{Memory, memory, record_in}
use Rattle.slots.specs.declared.Slot.{Slot}
use Rattle.slots.specs.declared.Status.{Status}
use Rattle.slots.specs.declared.Status.TheVariants.{Free, Running, Finished}
use Rattle.serial.proofs.Told.{Told, away, answered as replied, within, settled_one, settled, heard, Fed as FedAsk}
use Rattle.serial.proofs.Told.{slot_fed, given_told, KeepsTold, next_told, begin_told, DemandTold, demand_told}
use Rattle.serial.proofs.Told.{Unwritten as UnwrittenT, NotWriting as NotWritingT, finished_in as finishedT}
use Rattle.rules.specs.World.{World, status_at}
use Rattle.rules.specs.Collections.{answer_at}
use Rattle.rules.specs.Names.{arguments_of}
use Rattle.rules.specs.Book.{Book, Fed, on_record, close_hca, nop, book_number, book_reply, book_after}
use Rattle.rules.specs.Calls.{Answer, Note, nothing, refused, accepted, finished, emptied, answer_to, world_after, note_of}
use Rattle.rules.specs.Lending.{LentCall, lend, world_lent, answer_lent, begins_lent, stops_lent, proper}
use Rattle.rules.specs.Demand3.{Entry, turned_away, answered, in_slot, collected_from, noted, Run, run_from, Done, done, in_slot_done}
use Rattle.rules.specs.Demand3.{finished_in, Writing, NotWriting, Unwritten, given, book_of, Demand3, Statement, Zeroed}
use Rattle.rules.specs.Demand3.{WritesRecord}
use Rattle.rules.proofs.Proofs.System.{Place, gate, at, Req, one, missing, close_hca as closing}
use Rattle.rules.proofs.Proofs.System.{nop as resting, number, gate_bytes, Writes, system}
use Rattle.rules.proofs.Proofs.Shown.{shows, plain, asks}
use Rattle.rules.proofs.Proofs.View.{look_at, slot_view, slot_at, view_of, Fine, look_valid}
use Rattle.rules.proofs.Proofs.Admitted.{note_for, stays, nop_ok}
use Rattle.rules.proofs.Proofs.Events.{call_ok}
use Rattle.rules.proofs.Proofs.Started.{Started, started}
use Rattle.rules.proofs.Proofs.Lists.{Roomy, LentAs, leaves, only_nop, goes, lent_call, roomy_after, stops_begins}

-- ---- the two journals

abbrev pub item : Entry → Told system plain
item (turned_away f n) = away f (number n)
item (answered f a) = replied f a
item (in_slot f k) = within f k

abbrev pub items : List Entry → List (Told system plain)
items [] = []
items (e ∷ J) = item e ∷ items J

items_append : (A B : List Entry) → items (A ++ B) ≡ items A ++ items B
items_append [] B = refl
items_append (e ∷ A) B = ap (λ (l : List (Told system plain)). item e ∷ l) (items_append A B)

settle_same : (j k : ℕ) (f : Fed) (a : List ℕ) (d : Dec (j ≡ k))
    → item (pick (eqb j k) (answered f a) (in_slot f j)) ≡ settled_one system plain d a f
settle_same j k f a (yes e) = ap (λ (b : Bool). item (pick b (answered f a) (in_slot f j))) (eq-eqb j k e)
settle_same j k f a (no e) = ap (λ (b : Bool). item (pick b (answered f a) (in_slot f j))) (ne_eqb j k e)

items_settle : (k : ℕ) (a : List ℕ) (J : List Entry) → items (collected_from k a J) ≡ settled system plain k a (items J)
items_settle k a [] = refl
items_settle k a (turned_away f n ∷ J) = ap (λ (l : List (Told system plain)). away f (number n) ∷ l) (items_settle k a J)
items_settle k a (answered f b ∷ J) = ap (λ (l : List (Told system plain)). replied f b ∷ l) (items_settle k a J)
items_settle k a (in_slot f j ∷ J) =
    ap₂ (λ (x : Told system plain) (l : List (Told system plain)). x ∷ l) (settle_same j k f a (ℕ_discrete j k)) (items_settle k a J)

items_noted : (n : Note) (J : List Entry) → items (noted n J) ≡ heard system plain (note_for n) (items J)
items_noted nothing J = refl
items_noted (refused f n) J = items_append J (turned_away f n ∷ [])
items_noted (accepted f k) J = items_append J (in_slot f k ∷ [])
items_noted (finished f a) J = items_append J (answered f a ∷ [])
items_noted (emptied k a) J = items_settle k a J

-- ---- every run keeps the invariant

-- a call of a list is an event of the memory that it has to be lent
lent_ok : (w : World) (c : LentCall) → Roomy w → stops_lent w c ≡ false
    → Fine (proper w) (proper (world_lent w c)) (note_for (note_of w.hca.logs c.call (answer_lent w c)))
lent_ok w c r s = go (lent_call w c r s)
  where
    go : LentAs w c → Fine (proper w) (proper (world_lent w c)) (note_for (note_of w.hca.logs c.call (answer_lent w c)))
    go (leaves e n) =
        subst (λ (u : World). Fine (proper w) (proper u) (note_for (note_of w.hca.logs c.call (answer_lent w c)))) (sym e)
        (subst (λ (x : Note). Fine (proper w) (proper w) (note_for x)) (sym n) (stays (proper w)))
    go (only_nop e n) =
        subst (λ (u : World). Fine (proper w) (proper u) (note_for (note_of w.hca.logs c.call (answer_lent w c)))) (sym e)
        (subst (λ (x : Note). Fine (proper w) (proper w) (note_for x)) (sym n) (nop_ok (proper w)))
    go (goes a e p) =
        subst (λ (u : World). Fine (proper w) u (note_for (note_of w.hca.logs c.call (answer_lent w c)))) (sym e)
        (subst (λ (x : Answer). Fine (proper w) (world_after (proper w) c.call) (note_for (note_of w.hca.logs c.call x))) (sym a)
        (call_ok (proper w) c.call p))

run_keeps : (s : Place → List ℕ) (w : World) (J : List Entry) (cs : List LentCall) → Roomy w
    → KeepsTold system plain s (view_of (proper w)) (items J)
    → KeepsTold system plain s (view_of (proper (run_from w J cs).world)) (items (run_from w J cs).journal)
run_keeps s w J [] r i = i
run_keeps s w J (c ∷ cs) r i =
    by_pick (λ (x : Run). KeepsTold system plain s (view_of (proper x.world)) (items x.journal)) (stops_lent w c) _ _ (λ _. i)
    (λ a. let n : Note = note_of w.hca.logs c.call (answer_lent w c) in
    let f : Fine (proper w) (proper (world_lent w c)) (note_for n) = lent_ok w c r a in
    run_keeps s (world_lent w c) (noted n J) cs (roomy_after w c r (stops_begins w c a))
    (subst (λ (l : List (Told system plain)). KeepsTold system plain s (view_of (proper (world_lent w c))) l) (sym (items_noted n J))
    (next_told system plain s (view_of (proper w)) (view_of (proper (world_lent w c))) (items J) (note_for n) i f.event f.tells)))

-- ---- what is said of a run, in the terms of `serial`

abbrev pub fin : Done → FedAsk system plain
fin d = record { what = d.what; gave = d.gave }

abbrev pub fins : List Done → List (FedAsk system plain)
fins [] = []
fins (d ∷ l) = fin d ∷ fins l

fins_append : (A B : List Done) → fins (A ++ B) ≡ fins A ++ fins B
fins_append [] B = refl
fins_append (d ∷ A) B = ap (λ (l : List (FedAsk system plain)). fin d ∷ l) (fins_append A B)

pub fins_same : (w : World) (J : List Entry) → fins (finished_in w J) ≡ finishedT system plain (slot_at w) (items J)
unfolding answer_at
fins_same w [] = refl
fins_same w (turned_away f n ∷ J) = fins_same w J
fins_same w (answered f a ∷ J) = ap (λ (l : List (FedAsk system plain)). fin (done f a) ∷ l) (fins_same w J)
fins_same w (in_slot f k ∷ J) = go (status_at k w.row) (fins_same w J)
  where
    go : (s : Status) → fins (finished_in w J) ≡ finishedT system plain (slot_at w) (items J)
        → fins (in_slot_done w f k s (finished_in w J))
        ≡ slot_fed system plain f (slot_view k w.room s) (finishedT system plain (slot_at w) (items J))
    go Free e = e
    go (Running m q) e = e
    go (Finished m q) e = ap (λ (l : List (FedAsk system plain)). fin (done f (answer_at w k q)) ∷ l) e

-- who writes a place, in the book's terms
abbrev WritingAt : Fed → Place → Type 0
WritingAt f gate = Unit {0}
WritingAt f (at X) = Writing f X

writes_record : (q : Request) (X : Record) → writes_of q ≡ true → record_of q ≡ X → WritesRecord (arguments_of q) X
writes_record (request.Command c) X w e = (w, e)
writes_record (request.Engine (engine.ReadState n)) X w e = absurd (false≢true w)
writes_record (request.Engine (engine.ReadNext n)) X w e = absurd (false≢true w)
writes_record (request.Engine (engine.ReadAll n)) X w e = absurd (false≢true w)
writes_record (request.Engine (engine.Write p s n psn)) X w e = e
writes_record (request.Engine (engine.ReadJoined n c d)) X w e = absurd (false≢true w)

writing : (r : Req) (X : Place) → Writes r X → WritingAt (asks r) X
writing r gate x = tt
writing (one q mail) (at X) x = writes_record q X (is_true (writes_of q) x.0) (sym x.1)
writing (missing n t) (at X) x = absurd x
writing closing (at X) x = x
writing resting (at X) x = x

quiet_same : (w : World) (X : Record) (J : List Entry) → Unwritten w X J
    → UnwrittenT system plain WritingAt writing (slot_at w) (at X) (items J)
quiet_same w X [] u = tt
quiet_same w X (turned_away f n ∷ J) u = quiet_same w X J u
quiet_same w X (answered f a ∷ J) u = quiet_same w X J u
quiet_same w X (in_slot f k ∷ J) u = (go (status_at k w.row) u.0, quiet_same w X J u.1)
  where
    go : (s : Status) → NotWriting f X s → NotWritingT system plain WritingAt writing f (at X) (slot_view k w.room s)
    go Free x = x
    go (Running m q) x = x
    go (Finished m q) x = x

pub given_same : (b : Book) (l : List Done) → given_told system plain b (fins l) ≡ given b l
given_same b [] = refl
given_same b (d ∷ l) = given_same (book_after d.what b) l

plainly : (m n : ℕ) → number m ≡ number n → m ≡ n
plainly m n e = cc

literal : (b : Book) (s : Place → List ℕ) (w : World) (J : List Entry) → ((X : Place) → shows b X ≡ s X)
    → KeepsTold system plain s (view_of w) (items J) → Demand3 b w J
literal b s w J m i = record {
  accepts = λ A B d e. plainly _ _
      (ap (λ (c : Book). number (book_number d.what c)) (sym (given_same b A)) ∙ d3.accepts (fins A) (fins B) (fin d) (split A B d e));
  records = λ X v u. sym (look_valid w X v) ∙ d3.records (at X) (quiet_same w X J u)
      ∙ ap (λ (l : List (FedAsk system plain)). (given_told system plain b l).bytes X) (sym (fins_same w J))
      ∙ ap (λ (c : Book). c.bytes X) (given_same b (finished_in w J));
  answers = λ A B d e. ap (book_reply d.what) (sym (given_same b A)) ∙ d3.answers (fins A) (fins B) (fin d) (split A B d e);
  refusals = λ A B f n e. plainly _ _ (ap (λ (c : Book). number (book_number f c)) (sym (given_same b (finished_in w A)))
      ∙ ap (λ (l : List (FedAsk system plain)). number (book_number f (given_told system plain b l))) (fins_same w A)
      ∙ d3.refusals (items A) (items B) f (number n) (ap items e ∙ items_append A (turned_away f n ∷ B)) tt);
}
  where
    d3 : DemandTold system plain WritingAt writing b (look_at w) (slot_at w) (items J)
    d3 = demand_told system plain WritingAt writing b s (view_of w) (items J) m i

    split : (A B : List Done) (d : Done) → finished_in w J ≡ A ++ d ∷ B
        → finishedT system plain (slot_at w) (items J) ≡ fins A ++ fin d ∷ fins B
    split A B d e = sym (fins_same w J) ∙ ap fins e ∙ fins_append A (d ∷ B)

-- ---- the start

-- what the first call left of what it was lent is the front of what is there
module _ (before : World) (first : LentCall) (i : begins_lent before first ≡ true) where
  u : World
  u = world_after (lend first.lent before) first.call

  begun : Started u
  unfolding u
  begun = started (lend first.lent before) first.call i

  pub start_roomy : Roomy (world_lent before first)
  unfolding u
  start_roomy = record {
    slots = omega (arith, begun.sized.rowed, length-append u.row (drop first.lent.slots before.row));
    room = omega (arith, begun.sized.roomed, length-append u.room (drop first.lent.room before.room));
    store = omega (arith, begun.stored, length-append u.memory.store (drop first.lent.store before.memory.store));
  }

  start_memory : (proper (world_lent before first)).memory ≡ u.memory
  unfolding u
  start_memory =
      ap memory (take_at u.memory.store (drop first.lent.store before.memory.store) u.hca.store_len begun.stored)

  start_row : (proper (world_lent before first)).row ≡ u.row
  unfolding u
  start_row = take_at u.row (drop first.lent.slots before.row) slot_count begun.sized.rowed

  pub start_open : (proper (world_lent before first)).hca.«open» ≡ true
  unfolding u
  start_open = begun.opened

  pub start_free : (k : ℕ) → status_at k (proper (world_lent before first)).row ≡ Free
  start_free k = ap (status_at k) start_row ∙ begun.freed k

  pub start_zero : (X : Record) → is_record (world_lent before first).hca.logs X ≡ true
      → record_in (world_lent before first).hca.logs (proper (world_lent before first)).memory X ≡ replicate (record_size X) 0
  unfolding u
  start_zero X v = ap (λ (x : Memory). record_in u.hca.logs x X) start_memory ∙ begun.zeroed X v

pub zeroed : Zeroed
zeroed before first i X v =
    ap (λ (b : Bool). pick b (record_in (world_lent before first).hca.logs (proper (world_lent before first)).memory X) []) v
    ∙ start_zero before first i X v

-- the book begins as the memory does
pub book_shows : (w : World) → w.hca.«open» ≡ true → (X : Place) → shows (book_of w) X ≡ look_at w X
book_shows w o gate = ap (λ (b : Bool). gate_bytes b w.hca.logs) (sym o)
book_shows w o (at X) = refl

-- every list of calls keeps the invariant
pub list_keeps : (before : World) (first : LentCall) → begins_lent before first ≡ true → (calls : List LentCall)
    → let start : World = world_lent before first in
    KeepsTold system plain (look_at (proper start)) (view_of (proper (run_from start [] calls).world))
    (items (run_from start [] calls).journal)
list_keeps before first i calls =
    let start : World = world_lent before first in
    run_keeps (look_at (proper start)) start [] calls (start_roomy before first i)
    (begin_told system plain (view_of (proper start)) (λ j. ap (slot_view j (proper start).room) (start_free before first i j)))

-- DEMAND 3
pub demand3 : Statement
demand3 before first i calls =
    let start : World = world_lent before first in
    literal (book_of (proper start)) (look_at (proper start)) (proper (run_from start [] calls).world) (run_from start [] calls).journal
    (book_shows (proper start) (start_open before first i)) (list_keeps before first i calls)
