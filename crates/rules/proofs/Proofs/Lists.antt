-- A call of a list, whatever it is lent: it leaves everything, as one that is refused for its lengths does, or NOP; or it does to the
-- memory that it has to be lent (`proper`) what it does when it is lent just that.
use Rattle.std.specs.Prelude.{◌≡◌, refl, Bool, true, false, ◌⊎◌, ℕ, ◌+◌, ◌≤◌, ltb, take, Result, Err}
use Rattle.std.proofs.Math.Path.{sym, ap}
use Rattle.std.proofs.Common.{◌∙◌, ap₂, true≢false, inl, inr, arith, length-drop, take-append-drop, take-take}
use Rattle.std.proofs.lemmas.Bool.{false≢true}
use mathlib.Core.List.{List, [], ◌++◌}
use Rattle.std.proofs.Math.ListN.{length, drop, length-append, length-take}
use Rattle.std.proofs.Math.Seq.{length-take-le, take_at}
use Rattle.std.proofs.lemmas.List.{take-append-le}
use Rattle.words.specs.Choice.{pick, either}
use Rattle.words.proofs.Tails.{take_front}
use Rattle.burst_table.specs.Sizes.{slot_count, room_size}
use Rattle.records.specs.Memory.{memory}
use Rattle.slots.specs.declared.Slot.{Slot}
use Rattle.slots.specs.declared.Status.TheVariants.{Free, Finished}
use Rattle.rules.specs.declared.Refusal.TheVariants as cause
use Rattle.rules.specs.World.{World, with_room, store_length, status_at, bad_row, bad_lent}
use Rattle.rules.specs.Admission.{Submitted, applied}
use Rattle.rules.specs.Commands.{decide_command, submit_command}
use Rattle.rules.specs.Engines.{decide_engine, submit_engine}
use Rattle.rules.specs.Steps.{Stepped, step_refused, step_of}
use Rattle.rules.specs.Collections.{Collected, collect_refused, collect_of}
use Rattle.rules.specs.Resets.{Reset, reset_of}
use Rattle.rules.specs.Book.{nop}
use Rattle.rules.specs.Calls.{Call, command, engine_request, step, collection, resetting, Answer, submitted, reset_done}
use Rattle.rules.specs.Calls.{answer_to, world_after, Note, nothing, finished, Asked, command_asked, engine_asked, submit_note}
use Rattle.rules.specs.Calls.{collect_note, note_of, is_done, is_init, initialises, begins, reset_ends, stops}
use Rattle.rules.specs.Lending.{Lent, LentCall, lend, give_back, answer_lent, world_lent, begins_lent, stops_lent, proper}
use Rattle.rules.proofs.Laws.Lent.{Sized, sized, lent_sized, lent_store, closed_free}
use Rattle.rules.specs.Laws.Decided.{Decided, plain, denied, takes, closes, rests, opens, misnamed}
use Rattle.rules.proofs.Laws.Decided.{command_decided, engine_decided}
use Rattle.rules.specs.Laws.Outcomes.{Stepping, Collecting}
use Rattle.rules.proofs.Laws.Outcomes.{step_is, collect_is, reset_is}
use Rattle.rules.proofs.Proofs.Admitted.{quiet}
use Rattle.rules.proofs.Proofs.Events.{no_init, number_no_init}
use Rattle.rules.proofs.Proofs.Frame.{sizes, counts}
use Rattle.rules.proofs.Proofs.Front.{room_front}
use Rattle.rules.specs.declared.Decision.{Decision}
use Rattle.rules.specs.declared.Refusal.{Refusal}
use Rattle.rules.specs.declared.Submission.{Submission}
use Rattle.engines.specs.Engines.{read_number}

-- ---- what is there to be lent

-- the memory has at least what every call has to be lent
pub record Roomy (w : World) : Type 0 where
  pub slots : slot_count ≤ length w.row
  pub room : room_size ≤ length w.room
  pub store : w.hca.store_len ≤ store_length w

-- what was lent and left as it was, given back, is what was there
give_same : (l : Lent) (w : World) → give_back l w (lend l w) ≡ w
give_same l w = λ i. record {
  hca = w.hca;
  row = take-append-drop l.slots w.row i;
  memory = memory (take-append-drop l.store w.memory.store i);
  room = take-append-drop l.room w.room i;
}

give_left : (l : Lent) (w u : World) → u ≡ lend l w → give_back l w u ≡ w
give_left l w u e = ap (give_back l w) e ∙ give_same l w

-- the lengths of what is given back
back_long : {A : Type 0} (n : ℕ) (xs ys : List A) → length ys ≡ length (take n xs) → length (ys ++ drop n xs) ≡ length xs
back_long n xs ys e =
    length-append ys (drop n xs) ∙ ap (λ (k : ℕ). k + length (drop n xs)) e ∙ sym (length-append (take n xs) (drop n xs))
    ∙ ap length (take-append-drop n xs)

-- ---- a call that is refused for its lengths

Ignored : World → Call → Type 0
Ignored w c = (world_after w c ≡ w) × (note_of w.hca.logs c (answer_to w c) ≡ nothing)

submit_left_lem : (w : World) (mail : List ℕ) (a : Asked) (d : Result Decision Refusal) → d ≡ Err cause.BadLength
    → ((applied w mail d).world ≡ w) × (submit_note mail a (applied w mail d).answer ≡ nothing)
submit_left_lem w mail a d e = (
  ap (λ (x : Result Decision Refusal). (applied w mail x).world) e,
  ap (λ (x : Result Decision Refusal). submit_note mail a (applied w mail x).answer) e ∙ sym (quiet mail a cause.BadLength refl),
)

step_short : (w : World) (k : ℕ) → bad_lent w ≡ true → step_of w k ≡ step_refused w cause.BadLength
unfolding step_of
step_short w k e = rw e

collect_short : (w : World) (k : ℕ) (out : List ℕ) → bad_lent w ≡ true → collect_of w k out ≡ collect_refused w out cause.BadLength
unfolding collect_of
collect_short w k out e = rw e

lent_ignored : (w : World) (c : Call) → stops w c ≡ false → bad_lent w ≡ true → Ignored w c
unfolding Ignored submit_command decide_command submit_engine decide_engine
lent_ignored w (command bytes mail) s e = submit_left_lem w mail (command_asked w.hca.logs bytes) (decide_command w bytes mail) (rw e)
lent_ignored w (engine_request n index psn code) s e =
    submit_left_lem w [] (engine_asked w.hca.logs n index psn code) (decide_engine w n index psn code) (rw e)
lent_ignored w (step k) s e = (ap (λ (x : Stepped). x.world) (step_short w k e), refl)
lent_ignored w (collection k out) s e = (
  ap (λ (x : Collected). x.world) (collect_short w k out e),
  ap (λ (x : Collected). collect_note k x.out x.answer) (collect_short w k out e),
)
lent_ignored w resetting s e =
    reset_is w (λ (r : Reset). reset_ends r.answer ≡ false → (r.world ≡ w) × (nothing ≡ nothing)) (λ _ _. (refl, refl))
    (λ _ f. absurd (true≢false f)) s

-- ---- a call while closed: it leaves everything, and only NOP is noted

AtMostNop : World → Call → Type 0
AtMostNop w c =
    (world_after w c ≡ w)
    × ((note_of w.hca.logs c (answer_to w c) ≡ nothing) ⊎ (note_of w.hca.logs c (answer_to w c) ≡ finished nop []))

shut_open : (w : World) {A : Type 0} → w.hca.«open» ≡ false → w.hca.«open» ≡ true → A
shut_open w o p = absurd (false≢true (sym o ∙ p))

applied_shut : (w : World) (mail : List ℕ) (a : Asked) (d : Result Decision Refusal) → w.hca.«open» ≡ false → Decided w mail a d
    → pick (is_init a) (is_done (applied w mail d).answer) false ≡ false
    → ((applied w mail d).world ≡ w)
    × ((submit_note mail a (applied w mail d).answer ≡ nothing) ⊎ (submit_note mail a (applied w mail d).answer ≡ finished nop []))
applied_shut w mail a d o (plain {a = x} c e) i = (refl, inl (sym (quiet mail x c e)))
applied_shut w mail a d o (denied g e) i = shut_open w o g.asking.opened
applied_shut w mail a d o (misnamed g) i = shut_open w o g.opened
applied_shut w mail a d o (takes g e f) i = shut_open w o g.asking.opened
applied_shut w mail a d o (closes p n) i = shut_open w o p
applied_shut w mail a d o rests i = (refl, inr refl)
applied_shut w mail a d o (opens p q e) i = absurd (true≢false i)

shut_at_most_nop : (w : World) (c : Call) → w.hca.«open» ≡ false → stops w c ≡ false → AtMostNop w c
unfolding AtMostNop initialises submit_command submit_engine
shut_at_most_nop w (command bytes mail) o s =
    applied_shut w mail (command_asked w.hca.logs bytes) (decide_command w bytes mail) o (command_decided w bytes mail) s
shut_at_most_nop w (engine_request n index psn code) o s =
    applied_shut w [] (engine_asked w.hca.logs n index psn code) (decide_engine w n index psn code) o (engine_decided w n index psn code)
    (no_init (engine_asked w.hca.logs n index psn code) (is_done (submit_engine w n index psn code).answer)
    (number_no_init w index psn code (read_number n)))
shut_at_most_nop w (step k) o s =
    (step_is w k (λ (x : Stepped). x.world ≡ w) (λ _. refl) (λ q m t. shut_open w o t.opened), inl refl)
shut_at_most_nop w (collection k out) o s =
    collect_is w k out
    (λ (x : Collected). (x.world ≡ w) × ((collect_note k x.out x.answer ≡ nothing) ⊎
    (collect_note k x.out x.answer ≡ finished nop [])))
    (λ _. (refl, inl refl))
    (λ q t. let f : Finished t.moves q ≡ Free = sym t.now ∙ closed_free w t.possible o k in
    let z : ◌≡◌ {A = ℕ} 0 1 = cc in absurd (omega arith))
shut_at_most_nop w resetting o s =
    (reset_is w (λ (r : Reset). reset_ends r.answer ≡ false → r.world ≡ w) (λ _ _. refl) (λ _ f. absurd (true≢false f)) s, inl refl)

-- ---- a call that is lent enough, while open

module _ (w : World) (l : Lent) (r : Roomy w) (o : w.hca.«open» ≡ true) (e : bad_lent (lend l w) ≡ false) where
  tail : List ℕ
  tail = drop room_size (take l.room w.room)

  z : Sized (lend l w)
  z = lent_sized (lend l w) e

  -- what it is lent is what it has to be lent, with a tail behind the room
  lent_is : lend l w ≡ with_room (proper w) ((proper w).room ++ tail)
  unfolding tail
  lent_is = λ i. record {
    hca = w.hca;
    row = take_front l.slots slot_count w.row z.rowed i;
    memory = memory (take_front l.store w.hca.store_len w.memory.store (lent_store (lend l w) e o) i);
    room = (sym (take-append-drop room_size (take l.room w.room))
        ∙ ap (λ (x : List ℕ). x ++ drop room_size (take l.room w.room))
        (take-take room_size l.room w.room (omega (arith, z.roomed, length-take l.room w.room)))) i;
  }

  proper_room : length (proper w).room ≡ room_size
  proper_room = length-take-le room_size w.room r.room

  enough : room_size ≤ length (proper w).room
  enough = omega (arith, proper_room)

  module _ (c : Call) where
    u : World
    u = world_after (proper w) c

    answer_same : answer_to (lend l w) c ≡ answer_to (proper w) c
    unfolding tail
    answer_same = ap (λ (x : World). answer_to x c) lent_is ∙ (room_front (proper w) tail c enough).0

    world_same : world_after (lend l w) c ≡ with_room u (u.room ++ tail)
    unfolding tail u
    world_same = ap (λ (x : World). world_after x c) lent_is ∙ (room_front (proper w) tail c enough).1

    module _ (n : begins (proper w) c ≡ false) where
      back_store : length u.memory.store ≡ u.hca.store_len
      unfolding u
      back_store =
          (sizes (proper w) c).1 ∙ length-take-le w.hca.store_len w.memory.store r.store ∙ sym (counts (proper w) c n).1

      proper_after : proper (give_back l w (world_after (lend l w) c)) ≡ world_after (proper w) c
      unfolding u tail
      proper_after =
          ap (λ (x : World). proper (give_back l w x)) world_same
          ∙ (λ i. record {
            hca = u.hca;
            row = take_at u.row (drop l.slots w.row) slot_count
                ((sizes (proper w) c).0 ∙ length-take-le slot_count w.row r.slots) i;
            memory = memory (take_at u.memory.store (drop l.store w.memory.store) u.hca.store_len back_store i);
            room = (take-append-le room_size (u.room ++ tail) (drop l.room w.room)
                (omega (arith, long, length-append u.room tail))
                ∙ take_at u.room tail room_size long) i;
          })
        where
          long : length u.room ≡ room_size
          long = (sizes (proper w) c).2 ∙ proper_room

-- ---- every call

-- the tests of a list's end, by the answer
same_submit : (x y : Result Submission Refusal) → submitted x ≡ submitted y → x ≡ y
same_submit x y e = cc

same_reset : (x y : Result (Unit {0}) Refusal) → reset_done x ≡ reset_done y → x ≡ y
same_reset x y e = cc

stops_same : (v u : World) (c : Call) → v.hca.logs ≡ u.hca.logs → answer_to v c ≡ answer_to u c → stops v c ≡ stops u c
unfolding initialises
stops_same v u (command bytes mail) g e =
    ap₂ (λ h (x : Result Submission Refusal). pick (is_init (command_asked h bytes)) (is_done x) false) g (same_submit _ _ e)
stops_same v u (engine_request n index psn code) g e = refl
stops_same v u (step k) g e = refl
stops_same v u (collection k out) g e = refl
stops_same v u resetting g e = ap reset_ends (same_reset _ _ e)

pub begins_stops : (w : World) (c : Call) → stops w c ≡ false → begins w c ≡ false
begins_stops w (command bytes mail) e = e
begins_stops w (engine_request n index psn code) e = refl
begins_stops w (step k) e = refl
begins_stops w (collection k out) e = refl
begins_stops w resetting e = refl

-- what a call of a list does
pub data LentAs (w : World) (c : LentCall) : Type 0 where
  leaves : world_lent w c ≡ w → note_of w.hca.logs c.call (answer_lent w c) ≡ nothing → LentAs w c
  only_nop : world_lent w c ≡ w → note_of w.hca.logs c.call (answer_lent w c) ≡ finished nop [] → LentAs w c
  goes : answer_lent w c ≡ answer_to (proper w) c.call → proper (world_lent w c) ≡ world_after (proper w) c.call
      → stops (proper w) c.call ≡ false → LentAs w c

pub lent_call : (w : World) (c : LentCall) → Roomy w → stops_lent w c ≡ false → LentAs w c
unfolding Ignored AtMostNop
lent_call w c r s = by_lent (bad_lent (lend c.lent w)) refl w.hca.«open» refl
  where
    quietly : (world_after (lend c.lent w) c.call ≡ lend c.lent w)
        → ((note_of w.hca.logs c.call (answer_lent w c) ≡ nothing) ⊎
        (note_of w.hca.logs c.call (answer_lent w c) ≡ finished nop []))
        → LentAs w c
    quietly e (inl n) = leaves (give_left c.lent w _ e) n
    quietly e (inr n) = only_nop (give_left c.lent w _ e) n

    by_lent : (b : Bool) → bad_lent (lend c.lent w) ≡ b → (o : Bool) → w.hca.«open» ≡ o → LentAs w c
    by_lent true e o f =
        let x : Ignored (lend c.lent w) c.call = lent_ignored (lend c.lent w) c.call s e in
        leaves (give_left c.lent w _ x.0) x.1
    by_lent false e false f =
        let x : AtMostNop (lend c.lent w) c.call = shut_at_most_nop (lend c.lent w) c.call f s in
        quietly x.0 x.1
    by_lent false e true f =
        let a = answer_same w c.lent r f e c.call in
        let p : stops (proper w) c.call ≡ false = sym (stops_same (lend c.lent w) (proper w) c.call refl a) ∙ s in
        goes a (proper_after w c.lent r f e c.call (begins_stops (proper w) c.call p)) p

-- the memory keeps what has to be lent
pub roomy_after : (w : World) (c : LentCall) → Roomy w → begins_lent w c ≡ false → Roomy (world_lent w c)
roomy_after w c r n =
    let u : World = world_after (lend c.lent w) c.call in
    let k = sizes (lend c.lent w) c.call in
    record {
      slots = omega (arith, r.slots, back_long c.lent.slots w.row u.row k.0);
      room = omega (arith, r.room, back_long c.lent.room w.room u.room k.2);
      store = omega (
        arith,
        r.store,
        back_long c.lent.store w.memory.store u.memory.store k.1,
        (counts (lend c.lent w) c.call n).1,
      );
    }

pub stops_begins : (w : World) (c : LentCall) → stops_lent w c ≡ false → begins_lent w c ≡ false
stops_begins w c e = begins_stops (lend c.lent w) c.call e
