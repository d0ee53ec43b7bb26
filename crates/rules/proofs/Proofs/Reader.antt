-- A burst of a reader is an event, the last or not: stated over the joined bytes of its records.
use Rattle.std.specs.Prelude.{◌≡◌, Bool, true, false, ℕ, suc, ◌+◌, ◌≤◌, ◌<◌, get_or, drop}
use Rattle.std.proofs.Math.Path.{refl, sym, ap, subst}
use Rattle.std.proofs.Common.{◌∙◌, ap₂, true≢false, add-one}
use mathlib.Core.List.{List, []}
use Rattle.std.proofs.Math.Dec.{T}
use Rattle.words.specs.Parts.{part}
use Rattle.requests.specs.declared.Request.{Request}
use Rattle.request_table.specs.Records.{record_of, records_of, writes_of}
use Rattle.request_table.proofs.Laws.{need_reader}
use Rattle.burst_table.specs.Bursts.{bursts_of, total_of}
use Rattle.answers.specs.Answers.{answer_of}
use Rattle.bursts.specs.Copies.{copies, copy}
use Rattle.bursts.specs.Room.{room_of, front_of}
use Rattle.slots.specs.declared.Status.TheVariants.{Running, Finished}
use Rattle.serial.specs.Slots.{runs, ended, step, last}
use Rattle.serial.proofs.Told.{silence}
use Rattle.rules.specs.World.{World}
use Rattle.rules.specs.Steps.{slot_moved, world_moved}
use Rattle.rules.specs.Laws.Outcomes.{Stepping}
use Rattle.rules.proofs.Proofs.System.{Place, gate, at, one, Writes, join, join_local, eff, left, MidOf}
use Rattle.rules.proofs.Proofs.View.{look_at, slot_view, slot_at, Fine, look_same, look_joined, others}
use Rattle.rules.proofs.Proofs.Moved.{step_sized, step_all, slot_more, slot_last, bursts_rest}
use Rattle.rules.proofs.Proofs.Moved.{bursts_none, read_memory, read_own_lem, read_others, read_fronts}

module _ (w : World) (k : ℕ) (q : Request) (m : ℕ) (s : Stepping w k q m) (rd : writes_of q ≡ false) where
  u : World
  u = world_moved w k q m

  mail : List ℕ
  mail = front_of k q w.room

  buf : List ℕ
  buf = room_of k w.room

  was : slot_at w k ≡ runs (one q mail) (left (drop m (bursts_of q)) buf)
  unfolding mail buf
  was = ap (slot_view k w.room) s.now

  -- the burst that is copied is one of the joined bytes of the request's records
  got : room_of k u.room ≡ copy (get_or (bursts_of q) m 0) (join (records_of q) (look_at w)) buf
  unfolding u buf
  got =
      read_own_lem w k q m s rd
      ∙ ap (λ (c : List ℕ). copy (get_or (bursts_of q) m 0) c (room_of k w.room)) (sym (look_joined w (records_of q) (step_all w k q m s)))

  but : (i : ℕ) → ¬ (i ≡ k) → slot_at u i ≡ slot_at w i
  unfolding u world_moved
  but = others w u k (slot_moved w k) (step_sized w k q m s) refl (read_others w k q m s rd) (read_fronts w k q m s rd)

  -- a reader has no mailbox bytes
  mail_same : front_of k q u.room ≡ mail
  unfolding mail front_of part
  mail_same = rw (need_reader q rd)

  same : (X : Place) → look_at w X ≡ look_at u X
  unfolding u world_moved
  same X = sym (look_same w u refl (read_memory w k q m s rd) X)

  -- what is left of the copies, as a reader has it
  under_way : (t : Place → List ℕ) (b : Bool) → writes_of q ≡ b → MidOf b q mail (left (drop m (bursts_of q)) buf) t (look_at w)
      → answer_of q (copies (drop (suc m) (bursts_of q)) (join (records_of q) (look_at w)) (room_of k u.room))
      ≡ answer_of q (join (records_of q) t)
  under_way t true e x = absurd (true≢false (sym e ∙ rd))
  under_way t false e x =
      ap (λ (b : List ℕ). answer_of q (copies (drop (suc m) (bursts_of q)) (join (records_of q) (look_at w)) b)) got
      ∙ ap (λ (l : List ℕ). answer_of q (copies l (join (records_of q) (look_at w)) buf)) (sym (bursts_rest w k q m s)) ∙ x

  pub reader_last : total_of q ≤ m + 1 → Fine w (world_moved w k q m) silence
  unfolding u
  reader_last h = record {
    note = _;
    tells = refl;
    ended = _;
    event =
        last (one q mail) k (left (drop m (bursts_of q)) buf) (answer_of q (room_of k u.room)) was
        (ap (slot_view k u.room) (slot_last w k q m s h)
        ∙ ap (λ (x : List ℕ). ended (one q x) (answer_of q (room_of k u.room))) mail_same)
        but (λ X _. same X)
        (λ t x. (
          sym (ap (λ (l : List ℕ). answer_of q (copies l (join (records_of q) (look_at w)) (room_of k u.room)))
              (sym (bursts_none w k q m s h))
              ∙ under_way t (writes_of q) refl x),
          λ X. nowhere t X,
        ));
  }
    where
      nowhere : (t : Place → List ℕ) (X : Place) → Writes (one q mail) X → look_at u X ≡ eff (one q mail) t X
      nowhere t gate y = absurd y
      nowhere t (at X) y = absurd (subst T rd y.0)

  pub reader_step : m + 1 < total_of q → Fine w (world_moved w k q m) silence
  unfolding u
  reader_step h = record {
    note = _;
    tells = refl;
    ended = [];
    event =
        step (one q mail) k (left (drop m (bursts_of q)) buf) (left (drop (m + 1) (bursts_of q)) (room_of k u.room)) was
        (ap (slot_view k u.room) (slot_more w k q m s h)
        ∙ ap (λ (x : List ℕ). runs (one q x) (left (drop (m + 1) (bursts_of q)) (room_of k u.room))) mail_same)
        but (λ X _. same X)
        (λ t x. subst (λ (b : Bool). MidOf b q mail (left (drop (m + 1) (bursts_of q)) (room_of k u.room)) t (look_at u)) (sym rd)
        (ap₂ (λ (i : ℕ) (c : List ℕ). answer_of q (copies (drop i (bursts_of q)) c (room_of k u.room))) (add-one m)
        (join_local (records_of q) (look_at u) (look_at w) (λ X _. sym (same (at X))))
        ∙ under_way t (writes_of q) refl x));
  }
