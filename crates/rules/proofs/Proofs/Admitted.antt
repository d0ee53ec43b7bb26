-- A submission is an event: refused, refused because of the record's state, accepted, or done at once.
use Rattle.std.specs.Prelude.{◌≡◌, Bool, true, false, length, Some, Result, Ok, Err}
use Rattle.std.proofs.Math.Path.{refl, ap, subst}
use Rattle.std.proofs.Common.{sym, ◌∙◌, true≢false, inl, inr, arith, get_or-set_same}
use Rattle.std.proofs.lemmas.Bool.{false≢true}
use mathlib.Core.List.{List, []}
use Prim.Native.Nat.{ℕ, ◌≤◌, ◌<◌}
use Rattle.words.proofs.Tests.{is_true}
use Rattle.words.specs.Choice.{pick}
use Rattle.words.specs.Parts.{part}
use Rattle.words.proofs.Parts.{length_part}
use Rattle.context.specs.Layout.{record_size}
use Rattle.context.specs.declared.QpNumber.{QpNumber}
use Rattle.requests.specs.declared.Request.{Request}
use Rattle.request_table.specs.Records.{record_of, records_of, writes_of}
use Rattle.request_table.proofs.Listed.{all_in}
use Rattle.mailboxes.specs.Mailboxes.{need_of}
use Rattle.burst_table.specs.Bursts.{joined_size, bursts_of}
use Rattle.burst_table.specs.Sizes.{slot_count, slot_room}
use Rattle.burst_table.proofs.Touched.{Fit}
use Rattle.burst_table.proofs.Laws.{bursts_joined, bursts_room, records_room, need_small}
use Rattle.checks.specs.Permission.{permission_of}
use Rattle.checks.specs.Verdicts.{denial_number, verdict_number}
use Rattle.checks.specs.declared.Denial.{Denial}
use Rattle.checks.specs.declared.Denial.TheVariants as denial
use Rattle.answers.specs.Answers.{answer_of}
use Rattle.answers.proofs.Laws.{answer_agrees}
use Rattle.bursts.specs.Copies.{copies}
use Rattle.bursts.proofs.Copies.{length_copies, copies_in}
use Rattle.bursts.proofs.Effects.{writes_whole}
use Rattle.bursts.specs.Room.{room_of, front_of}
use Rattle.bursts.proofs.Room.{length_room, length_filled, front_filled, other_filled, other_front_filled}
use Rattle.records.specs.Memory.{record_in, AllRecords, permission_in}
use Rattle.records.specs.Laws.{length_record_in, length_joined_in, all_records_lem}
use Rattle.slots.specs.Slots.{slot, is_occupied, occupied_status}
use Rattle.slots.specs.declared.Slot.{Slot}
use Rattle.slots.specs.declared.Status.{Status}
use Rattle.slots.specs.declared.Status.TheVariants.{Free, Running, Finished}
use Rattle.rows.specs.Rows.{any_slot, lowest_free}
use Rattle.rows.proofs.Every.{none_each}
use Rattle.holds.specs.Holds.{clash_records, held_against}
use Rattle.rows.proofs.Laws.{Lowest, lowest_free_is}
use Rattle.holds.proofs.Laws.{held_none, no_writer, read_free}
use Rattle.serial.specs.Core.{Passes}
use Rattle.serial.specs.Slots.{runs, PassesAll, idle, turn, take, once}
use Rattle.serial.proofs.Told.{Heard, silence, sent, into, straight, out}
use Rattle.rules.specs.declared.Refusal.{Refusal}
use Rattle.rules.specs.declared.Refusal.TheVariants as cause
use Rattle.rules.specs.Numbers.{refusal_number, of_state, for_state}
use Rattle.rules.specs.World.{World, status_at}
use Rattle.rules.specs.Admission.{world_taken, world_closed, applied}
use Rattle.rules.specs.Names.{Arguments, arguments_of, read_joined}
use Rattle.rules.specs.Book.{Fed, on_record, close_hca as closing, nop as resting}
use Rattle.rules.specs.Calls.{Note, nothing, refused as refusedNote, accepted as acceptedNote, finished, emptied, Asked, asks_init}
use Rattle.rules.specs.Calls.{asks_close, asks_nop, asks_request, asks_nothing, fed, request_note, submit_note, is_init, is_done}
use Rattle.rules.proofs.Laws.Lent.{Sized, lent_sized, open_fits}
use Rattle.rules.specs.Laws.Named.{fits, Lost, trail_of, misses}
use Rattle.rules.proofs.Laws.Named.{need_arguments, fits_local, misses_local}
use Rattle.rules.specs.Laws.Decided.{qps_of, cqs_of, eqs_of, Judging, Missing, Decided, plain, denied, misnamed}
use Rattle.rules.specs.Laws.Decided.{takes, closes, rests, opens}
use Rattle.rules.proofs.Proofs.Agree.{whole_bytes}
use Rattle.rules.proofs.Proofs.System.{Place, gate, at, Req, one, missing, close_hca, nop, Num, number, stale, gate_bytes, gated_by}
use Rattle.rules.proofs.Proofs.System.{Sees, Writes, own_seen, records_in, qp_count, cq_count, eq_count, num, eff, Left}
use Rattle.rules.proofs.Proofs.System.{left, MidOf, join, system}
use Rattle.rules.proofs.Proofs.Shown.{plain as book}
use Rattle.rules.proofs.Proofs.View.{look_at, slot_view, slot_at, view_of, Fine, look_valid, look_same, look_joined, others}
use Rattle.rules.specs.declared.Decision.{Decision}

-- the note of a call, for the journal of `serial`
abbrev pub note_for : Note → Heard system book
note_for nothing = silence
note_for (refusedNote f n) = sent f (number n)
note_for (acceptedNote f k) = into f k
note_for (finished f a) = straight f a
note_for (emptied k a) = out k a

-- a call that leaves the world and notes nothing
pub stays : (w : World) → Fine w w silence
stays w = record { note = _; tells = refl; ended = []; event = idle (record { looks = λ X. refl; slots = λ j. refl }) }

-- ---- holds

-- two requests that do not clash: what one writes, the other does not see
passes : (r q : Request) (a b : List ℕ) → clash_records r (writes_of q) (records_of q) ≡ false → Passes system (one r a) (one q b)
passes r q a b h = record { out = forth; back = back; also = tt }
  where
    forth : (X : Place) → Writes (one r a) X → Sees (one q b) X → ⊥
    forth gate x y = x
    forth (at X) x y = no_writer q r X h y (own_seen r X x.1) (inl (is_true (writes_of r) x.0))

    back : (X : Place) → Writes (one q b) X → Sees (one r a) X → ⊥
    back gate x y = x
    back (at X) x y = no_writer q r X h (own_seen q X x.1) y (inr (is_true (writes_of q) x.0))

-- what a slot that runs shows
pub record Seen (k : ℕ) (room : List ℕ) (s : Status) (f : Req) (p : Left) : Type 0 where
  pub request : Request
  pub moved : ℕ
  pub is : s ≡ Running moved request
  pub asks : one request (front_of k request room) ≡ f

pub seen_runs : (k : ℕ) (room : List ℕ) (s : Status) (f : Req) (p : Left) → slot_view k room s ≡ runs f p → Seen k room s f p
seen_runs k room Free f p e = let z : ◌≡◌ {A = ℕ} 0 1 = cc in absurd (omega arith)
seen_runs k room (Running m q) f p e = record { request = q; moved = m; is = refl; asks = cc }
seen_runs k room (Finished m q) f p e = let z : ◌≡◌ {A = ℕ} 0 1 = cc in absurd (omega arith)

passes_all : (w : World) (q : Request) (mail : List ℕ) → held_against w.row q ≡ false → PassesAll system (view_of w) (one q mail)
unfolding status_at
passes_all w q mail h j f p e =
    let s : Seen j w.room (status_at j w.row) f p = seen_runs j w.room (status_at j w.row) f p e in
    subst (λ (x : Req). Passes system x (one q mail)) s.asks
    (passes s.request q (front_of j s.request w.room) mail (held_none w.row q h j s.request s.moved s.is))

-- once all bursts of a read are copied, the slot's part of the room answers as the records do, one behind the other
pub read_answers : (q : Request) (c buf : List ℕ) → writes_of q ≡ false → length c ≡ joined_size (records_of q) → length buf ≡ slot_room
    → answer_of q (copies (bursts_of q) c buf) ≡ answer_of q c
read_answers q c buf rd e f =
    let h : Fit (length c) (bursts_of q) = rw e (bursts_joined q) in
    let k : Fit (length buf) (bursts_of q) = rw f (bursts_room q) in
    answer_agrees q (copies (bursts_of q) c buf) c (omega (arith, length_copies (bursts_of q) c buf h k, records_room q)) (omega (arith, e))
    (copies_in (bursts_of q) c buf h k)

-- ---- all bursts are still to move

begun : (q : Request) (mail buf : List ℕ) (s : Place → List ℕ) → need_of q ≤ length mail
    → length (s (at (record_of q))) ≡ record_size (record_of q) → length (join (records_of q) s) ≡ joined_size (records_of q)
    → length buf ≡ slot_room → (b : Bool) → writes_of q ≡ b → MidOf b q mail (left (bursts_of q) buf) s s
begun q mail buf s n e j f true wr = writes_whole q wr mail (s (at (record_of q))) e ∙ sym (whole_bytes q mail (s (at (record_of q))) n e)
begun q mail buf s n e j f false rd = read_answers q (join (records_of q) s) buf rd j f

-- ---- a joined read that comes to a name out of range

module _ (w : World) (mail : List ℕ) (n : QpNumber) (t : Lost) (g : Missing w n t) where
  missing_passes : PassesAll system (view_of w) (missing n t)
  unfolding status_at
  missing_passes j f p e =
      let s : Seen j w.room (status_at j w.row) f p = seen_runs j w.room (status_at j w.row) f p e in
      subst (λ (x : Req). Passes system x (missing n t)) s.asks
      (record { out = forth s.request s.moved s.is (front_of j s.request w.room); back = λ X x y. x; also = tt })
    where
      forth : (r : Request) (m : ℕ) → status_at j w.row ≡ Running m r → (front : List ℕ) (X : Place) → Writes (one r front) X
          → Sees (missing n t) X → ⊥
      forth r m i front gate x y = x
      forth r m i front (at X) x y =
          read_free w.row X (g.free X y) j r m i (own_seen r X x.1) (is_true (writes_of r) x.0)

  missing_verdict : num (missing n t) (look_at w) ≡ number (denial_number denial.Name)
  missing_verdict =
      ap (λ (b : Bool). let o : List ℕ = gate_bytes b w.hca.logs in
      gated_by o (pick (misses (cq_count o) (eq_count o) n t (records_in (look_at w))) (number (denial_number denial.Name)) stale)) g.opened
      ∙ ap (λ (b : Bool). pick b (number (denial_number denial.Name)) stale)
      (misses_local (cqs_of w) (eqs_of w) n t (records_in (look_at w)) (record_in w.hca.logs w.memory)
      (λ X y. look_valid w X (all_in w.hca.logs X (trail_of n t) g.all y)) ∙ g.missed)

  pub missing_ok : Fine w w (sent (fed (read_joined n) mail) (number (denial_number denial.Name)))
  unfolding part
  missing_ok = record {
    note = _;
    tells = refl;
    ended = [];
    event = turn (record { looks = λ X. refl; slots = λ j. refl }) missing_passes missing_verdict;
  }

-- ---- a request whose record is judged

module _ (w : World) (mail : List ℕ) (q : Request) (g : Judging w q mail) where
  front : List ℕ
  front = part 0 (need_of q) mail

  long : length front ≡ need_of q
  unfolding front
  long = length_part 0 (need_of q) mail (omega (arith, g.enough))

  judge_sized : Sized w
  judge_sized = lent_sized w g.asking.passing.lent

  -- the book's verdict on the record as it stands
  verdict : (v : Result (Unit {0}) Denial) → permission_in w.hca.logs w.memory q ≡ v → num (one q front) (look_at w) ≡ number (verdict_number v)
  unfolding front permission_in
  verdict v e =
      ap (λ (b : Bool). let o : List ℕ = gate_bytes b w.hca.logs in
      gated_by o (pick (fits (qp_count o) (cq_count o) (eq_count o) q (records_in (look_at w)))
      (number (verdict_number (permission_of q (look_at w (at (record_of q)))))) stale))
      g.asking.opened
      ∙ ap (λ (b : Bool). pick b (number (verdict_number (permission_of q (look_at w (at (record_of q)))))) stale)
      (fits_local (qps_of w) (cqs_of w) (eqs_of w) q (records_in (look_at w)) (record_in w.hca.logs w.memory)
      (λ X y. look_valid w X (all_in w.hca.logs X (records_of q) g.asking.all y)) ∙ g.asking.named)
      ∙ ap (λ (c : List ℕ). number (verdict_number (permission_of q c))) (look_valid w (record_of q) g.asking.valid)
      ∙ ap (λ (x : Result (Unit {0}) Denial). number (verdict_number x)) e

  -- what the book is fed
  fed_is : on_record (arguments_of q) front ≡ fed (arguments_of q) mail
  unfolding front
  fed_is = ap (λ (i : ℕ). on_record (arguments_of q) (part 0 i mail)) (sym (need_arguments q))

  pub denied_ok : (v : Result (Unit {0}) Denial) → permission_in w.hca.logs w.memory q ≡ v
      → Fine w w (sent (fed (arguments_of q) mail) (number (verdict_number v)))
  denied_ok v e = record {
    note = _;
    tells = ap (λ (f : Fed). sent f (number (verdict_number v))) fed_is;
    ended = [];
    event = turn (record { looks = λ X. refl; slots = λ j. refl }) (passes_all w q front g.free) (verdict v e);
  }

  module _ (k : ℕ) (lowest : lowest_free 0 w.row ≡ Some k) (permitted : permission_in w.hca.logs w.memory q ≡ Ok tt) where
    u : World
    u = world_taken w q mail k

    l : Lowest w.row k
    l = lowest_free_is w.row k lowest

    k8 : k < slot_count
    k8 = omega (arith, l.inside, judge_sized.rowed)

    short : length front ≤ slot_room
    short = omega (arith, long, need_small q)

    was : status_at k w.row ≡ Free
    unfolding status_at
    was = l.free

    here : status_at k u.row ≡ Running 0 q
    unfolding u world_taken status_at
    here = ap (λ (s : Slot). s.status) (get_or-set_same w.row k (slot (Running 0 q)) (slot Free) l.inside)

    front_here : front_of k q u.room ≡ front
    unfolding u world_taken front
    front_here = front_filled k front w.room k8 judge_sized.roomed short q long

    buffer : length (room_of k u.room) ≡ slot_room
    unfolding u world_taken front
    buffer = length_room k u.room k8 (omega (arith, judge_sized.roomed, length_filled k front w.room k8 judge_sized.roomed short))

    but : (j : ℕ) → ¬ (j ≡ k) → slot_at u j ≡ slot_at w j
    unfolding u world_taken front
    but =
        others w u k (slot (Running 0 q)) judge_sized refl
        (λ j h d. other_filled k front w.room k8 judge_sized.roomed short j h d)
        (λ j r h d. other_front_filled k front w.room k8 judge_sized.roomed short j r h d)

    looks : (X : Place) → look_at u X ≡ look_at w X
    unfolding u world_taken
    looks X = look_same w u refl refl X

    stored : length (look_at w (at (record_of q))) ≡ record_size (record_of q)
    stored =
        ap length (look_valid w (record_of q) g.asking.valid)
        ∙ length_record_in w.hca.logs w.memory
        (open_fits w g.asking.passing.lent g.asking.passing.possible g.asking.opened) (record_of q) g.asking.valid

    stored_all : length (join (records_of q) (look_at w)) ≡ joined_size (records_of q)
    stored_all =
        let all : AllRecords w.hca.logs (records_of q) = all_records_lem w.hca.logs (records_of q) g.asking.all in
        ap length (look_joined w (records_of q) all)
        ∙ length_joined_in w.hca.logs w.memory
        (open_fits w g.asking.passing.lent g.asking.passing.possible g.asking.opened) (records_of q) all

    pub taken_ok : Fine w (world_taken w q mail k) (into (fed (arguments_of q) mail) k)
    unfolding u
    taken_ok = record {
      note = _;
      tells = ap (λ (f : Fed). into f k) fed_is;
      ended = [];
      event =
          take (left (bursts_of q) (room_of k u.room)) looks (ap (slot_view k w.room) was)
          (ap (slot_view k u.room) here ∙ ap (λ (m : List ℕ). runs (one q m) (left (bursts_of q) (room_of k u.room))) front_here)
          but
          (passes_all w q front g.free)
          (verdict (Ok tt) permitted)
          (begun q front (room_of k u.room) (look_at w) (omega (arith, long)) stored stored_all buffer (writes_of q) refl);
    }

-- ---- commands that are done at once

none_running : (w : World) → any_slot is_occupied w.row ≡ false → (j : ℕ) (f : Req) (p : Left) → slot_at w j ≡ runs f p → ⊥
unfolding status_at
none_running w n j f p e =
    let s : Seen j w.room (status_at j w.row) f p = seen_runs j w.room (status_at j w.row) f p e in
    let a : occupied_status (status_at j w.row) ≡ false = none_each is_occupied w.row refl n j in
    false≢true (sym a ∙ ap occupied_status s.is)

closed_ok : (w : World) → w.hca.«open» ≡ true → any_slot is_occupied w.row ≡ false → Fine w (world_closed w) (straight closing [])
unfolding world_closed
closed_ok w o n = record {
  note = _;
  tells = refl;
  ended = _;
  event =
      once {r = close_hca} effect (λ j. refl) (λ j f p e. absurd (none_running w n j f p e))
      (ap (λ (b : Bool). gated_by (gate_bytes b w.hca.logs) (number 0)) o) refl;
}
  where
    effect : (X : Place) → look_at (world_closed w) X ≡ eff close_hca (look_at w) X
    effect gate = refl
    effect (at X) = refl

pub nop_ok : (w : World) → Fine w w (straight resting [])
nop_ok w = record {
  note = _;
  tells = refl;
  ended = _;
  event = once {r = nop} effect (λ j. refl) (λ j f p e. record { out = forth f; back = back f; also = tt }) refl refl;
}
  where
    effect : (X : Place) → look_at w X ≡ eff nop (look_at w) X
    effect gate = refl
    effect (at X) = refl

    forth : (f : Req) (X : Place) → Writes f X → ¬ Sees nop X
    forth f gate x y = y
    forth f (at X) x y = y

    back : (f : Req) (X : Place) → Writes nop X → ¬ Sees f X
    back f gate x y = x
    back f (at X) x y = x

-- ---- a submission

-- a refusal that is not because of the record's state is not noted
pub quiet : (mail : List ℕ) (a : Asked) (c : Refusal) → for_state c ≡ false → nothing ≡ submit_note mail a (Err c)
quiet mail asks_init c e = refl
quiet mail asks_close c e = refl
quiet mail asks_nop c e = refl
quiet mail (asks_request q) c e = rw e
quiet mail asks_nothing c e = refl

-- and every denial is
of_state_lem : (d : Denial) → of_state d ≡ true
of_state_lem denial.Edge = refl
of_state_lem denial.ServiceType = refl
of_state_lem denial.Owner = refl
of_state_lem denial.Name = refl

pub denied_noted : (mail : List ℕ) (a : Arguments) (d : Denial)
    → refusedNote (fed a mail) (denial_number d) ≡ submit_note mail (asks_request a) (Err (cause.Denied d))
denied_noted mail a d = rw (of_state_lem d)

-- whatever is decided but an initialisation, once applied, is an event
pub applied_ok : (w : World) (mail : List ℕ) (a : Asked) (d : Result Decision Refusal) → Decided w mail a d
    → pick (is_init a) (is_done (applied w mail d).answer) false ≡ false
    → Fine w (applied w mail d).world (note_for (submit_note mail a (applied w mail d).answer))
applied_ok w mail a d (plain {a = x} c e) i = subst (λ (n : Note). Fine w w (note_for n)) (quiet mail x c e) (stays w)
applied_ok w mail a d (denied {q = q} {d = y} g e) i =
    subst (λ (n : Note). Fine w w (note_for n)) (denied_noted mail (arguments_of q) y) (denied_ok w mail q g (Err y) e)
applied_ok w mail a d (misnamed {n = n} {t = t} g) i = missing_ok w mail n t g
applied_ok w mail a d (takes {q = q} {k = k} g e f) i = taken_ok w mail q g k f e
applied_ok w mail a d (closes o n) i = closed_ok w o n
applied_ok w mail a d rests i = nop_ok w
applied_ok w mail a d (opens p o e) i = absurd (true≢false i)
