-- A burst of a writer is an event, the last or not.
use Rattle.std.specs.Prelude.{◌≡◌, Bool, ℕ, suc, ◌+◌, ◌≤◌, ◌<◌, get_or, drop}
use Rattle.std.proofs.Math.Path.{refl, sym, ap, subst}
use Rattle.std.proofs.Common.{◌∙◌, ap₂, add-one}
use Rattle.std.proofs.Math.Bool.{true, false}
use Rattle.std.proofs.lemmas.Bool.{false≢true}
use mathlib.Core.List.{List, []}
use Rattle.std.proofs.Math.Dec.{T}
use Rattle.words.specs.Choice.{pick}
use Rattle.context.specs.Layout.{is_record}
use Rattle.context.specs.declared.Record.{Record}
use Rattle.requests.specs.declared.Command.TheVariants as command
use Rattle.requests.specs.declared.EngineRequest.TheVariants as engine
use Rattle.requests.specs.declared.Request.{Request}
use Rattle.requests.specs.declared.Request.TheVariants as request
use Rattle.request_table.specs.Records.{record_of, records_of, writes_of}
use Rattle.burst_table.specs.Bursts.{bursts_of, total_of}
use Rattle.answers.specs.Answers.{answer_of}
use Rattle.byte_rule.specs.Bytes.{byte_of}
use Rattle.bursts.specs.Bursts.{after, burst}
use Rattle.bursts.specs.Room.{room_of, front_of}
use Rattle.records.specs.Memory.{record_in}
use Rattle.slots.specs.declared.Status.{Status}
use Rattle.slots.specs.declared.Status.TheVariants.{Running, Finished}
use Rattle.serial.specs.Slots.{runs, step, last}
use Rattle.serial.proofs.Told.{silence}
use Rattle.rules.specs.World.{World}
use Rattle.rules.specs.Steps.{slot_moved, world_moved}
use Rattle.rules.specs.Whole.{whole_effect}
use Rattle.rules.specs.Laws.Outcomes.{Stepping}
use Rattle.rules.proofs.Proofs.System.{Place, gate, at, one, choose_yes, Writes, writes?, join, eff, left, MidOf}
use Rattle.rules.proofs.Proofs.View.{look_at, slot_view, slot_at, Fine, look_valid, others}
use Rattle.rules.proofs.Proofs.Moved.{step_sized, step_runs, slot_more, slot_last, bursts_rest}
use Rattle.rules.proofs.Proofs.Moved.{bursts_none, write_room, write_own, other_stays}

-- a writer's answer is empty
pub writer_answer : (q : Request) (p c : List ℕ) → writes_of q ≡ true → answer_of q p ≡ answer_of q c
writer_answer (request.Command (command.Sw2Hw o)) p c e = refl
writer_answer (request.Command (command.Hw2Sw o)) p c e = refl
writer_answer (request.Command (command.ResizeCq n)) p c e = refl
writer_answer (request.Command (command.QueryQp n)) p c e = absurd (false≢true e)
writer_answer (request.Command (command.ModifyQp x n)) p c e = refl
writer_answer (request.Engine (engine.ReadState n)) p c e = absurd (false≢true e)
writer_answer (request.Engine (engine.ReadNext n)) p c e = absurd (false≢true e)
writer_answer (request.Engine (engine.ReadAll n)) p c e = absurd (false≢true e)
writer_answer (request.Engine (engine.Write x s n psn)) p c e = refl
writer_answer (request.Engine (engine.ReadJoined n d x)) p c e = absurd (false≢true e)

module _ (w : World) (k : ℕ) (q : Request) (m : ℕ) (s : Stepping w k q m) (wr : writes_of q ≡ true) where
  u : World
  u = world_moved w k q m

  j : ℕ
  j = get_or (bursts_of q) m 0

  mail : List ℕ
  mail = front_of k q w.room

  buf : List ℕ
  buf = room_of k w.room

  was : slot_at w k ≡ runs (one q mail) (left (drop m (bursts_of q)) buf)
  unfolding mail buf
  was = ap (slot_view k w.room) s.now

  put : look_at u (at (record_of q)) ≡ burst (byte_of q mail) j (look_at w (at (record_of q)))
  unfolding u j mail world_moved
  put =
      look_valid u (record_of q) (step_runs w k q m s).valid
      ∙ write_own w k q m s wr
      ∙ ap (burst (byte_of q mail) j) (sym (look_valid w (record_of q) (step_runs w k q m s).valid))

  elsewhere : (X : Place) → ¬ Writes (one q mail) X → look_at w X ≡ look_at u X
  unfolding u world_moved
  elsewhere gate n = refl
  elsewhere (at X) n = go (is_record w.hca.logs X) refl
    where
      go : (b : Bool) → is_record w.hca.logs X ≡ b
          → pick b (record_in w.hca.logs w.memory X) [] ≡ pick b (record_in w.hca.logs u.memory X) []
      go false e = refl
      go true e = sym (other_stays w k q m s X e (λ t f. n (subst T (sym t) tt, sym f)))

  but : (i : ℕ) → ¬ (i ≡ k) → slot_at u i ≡ slot_at w i
  unfolding u world_moved
  but =
      others w u k (slot_moved w k) (step_sized w k q m s) refl
      (λ i _ _. ap (room_of i) (write_room w k q m s wr)) (λ i r _ _. ap (front_of i r) (write_room w k q m s wr))

  shown : (x : Status) → slot_view k u.room x ≡ slot_view k w.room x
  unfolding u
  shown x = ap (λ (l : List ℕ). slot_view k l x) (write_room w k q m s wr)

  -- what is left of the effect, as a writer has it
  under_way : (t : Place → List ℕ) (b : Bool) → writes_of q ≡ b → MidOf b q mail (left (drop m (bursts_of q)) buf) t (look_at w)
      → after (byte_of q mail) (drop (suc m) (bursts_of q)) (look_at u (at (record_of q))) ≡ whole_effect q mail (t (at (record_of q)))
  unfolding j
  under_way t true e x =
      ap (after (byte_of q mail) (drop (suc m) (bursts_of q))) put
      ∙ ap (λ (l : List ℕ). after (byte_of q mail) l (look_at w (at (record_of q)))) (sym (bursts_rest w k q m s)) ∙ x
  under_way t false e x = absurd (false≢true (sym e ∙ wr))

  pub writer_last : total_of q ≤ m + 1 → Fine w (world_moved w k q m) silence
  unfolding u mail buf
  writer_last h = record {
    note = _;
    tells = refl;
    ended = _;
    event =
        last (one q mail) k (left (drop m (bursts_of q)) buf) (answer_of q buf) was
        (ap (slot_view k u.room) (slot_last w k q m s h) ∙ shown (Finished (total_of q) q)) but elsewhere
        (λ t x. (writer_answer q (join (records_of q) t) buf wr, λ X. whole t x X));
  }
    where
      whole : (t : Place → List ℕ) → MidOf (writes_of q) q mail (left (drop m (bursts_of q)) buf) t (look_at w)
          → (X : Place) → Writes (one q mail) X → look_at u X ≡ eff (one q mail) t X
      whole t x gate y = absurd y
      whole t x (at X) y =
          subst (λ (Y : Record). look_at u (at Y) ≡ whole_effect q mail (t (at Y))) (sym y.1)
          (ap (λ (l : List ℕ). after (byte_of q mail) l (look_at u (at (record_of q)))) (sym (bursts_none w k q m s h))
          ∙ under_way t (writes_of q) refl x)
          ∙ sym (choose_yes (writes? (one q mail) (at X)) (whole_effect q mail (t (at X))) (t (at X)) y)

  pub writer_step : m + 1 < total_of q → Fine w (world_moved w k q m) silence
  unfolding u mail buf
  writer_step h = record {
    note = _;
    tells = refl;
    ended = [];
    event =
        step (one q mail) k (left (drop m (bursts_of q)) buf) (left (drop (m + 1) (bursts_of q)) buf) was
        (ap (slot_view k u.room) (slot_more w k q m s h) ∙ shown (Running (m + 1) q)) but elsewhere
        (λ t x. subst (λ (b : Bool). MidOf b q mail (left (drop (m + 1) (bursts_of q)) buf) t (look_at u)) (sym wr)
        (ap (λ (i : ℕ). after (byte_of q mail) (drop i (bursts_of q)) (look_at u (at (record_of q)))) (add-one m)
        ∙ under_way t (writes_of q) refl x));
  }
