-- Laws about the definitions of specs/Laws/Outcomes.antt.
use Rattle.std.specs.Prelude.{◌≡◌, refl, Bool, true, false, List, ℕ, ltb, length, Ok, Err}
use Rattle.std.proofs.Common.{sym, ◌∙◌, arith}
use Rattle.words.proofs.Choice.{by_pick}
use Rattle.words.specs.Parts.{splice}
use Rattle.requests.specs.declared.Request.{Request}
use Rattle.answers.specs.Answers.{answer_size}
use Rattle.slots.specs.Slots.{left_of}
use Rattle.slots.specs.declared.Status.{Status}
use Rattle.slots.specs.declared.Status.TheVariants.{Free, Running, Finished}
use Rattle.rules.specs.declared.Refusal.{Refusal}
use Rattle.rules.specs.declared.Refusal.TheVariants as cause
use Rattle.rules.specs.World.{World, status_at, bad_row, bad_lent, bad_state}
use Rattle.rules.specs.Steps.{Stepped, stepped, step_refused, slot_moved, world_moved, step_on, step_of}
use Rattle.rules.specs.Collections.{Collected, collected, collect_refused, answer_at, world_freed, collect_finished, collect_on, collect_of}
use Rattle.rules.specs.Resets.{Reset, resetted, world_reset, reset_of}
use Rattle.rules.proofs.Laws.Lent.{closed_free}
use Rattle.rules.specs.Laws.Outcomes.{Collecting, Stepping}

-- a running request is one of an open adapter
pub running_open : (w : World) → bad_state w ≡ false → (k : ℕ) (q : Request) (m : ℕ) → status_at k w.row ≡ Running m q
    → (b : Bool) → w.hca.«open» ≡ b → w.hca.«open» ≡ true
running_open w p k q m e true o = o
running_open w p k q m e false o =
    let f : Running m q ≡ Free = sym e ∙ closed_free w p o k in
    let z : ◌≡◌ {A = ℕ} 0 1 = cc in absurd (omega arith)

module _ (w : World) (k : ℕ) (P : Stepped → Type 0) (refusals : (c : Refusal) → P (step_refused w c))
    (moves : (q : Request) (m : ℕ) → Stepping w k q m → P (stepped (Ok (left_of (slot_moved w k))) (world_moved w k q m))) where
  on_is : bad_lent w ≡ false → bad_state w ≡ false → (s : Status) → status_at k w.row ≡ s → P (step_on w k s)
  unfolding step_on
  on_is l p Free e = refusals cause.NoRequest
  on_is l p (Running m q) e =
      moves q m (record { lent = l; possible = p; opened = running_open w p k q m e w.hca.«open» refl; now = e })
  on_is l p (Finished m q) e = refusals cause.NoRequest

  pub step_is : P (step_of w k)
  unfolding step_of
  step_is =
      by_pick P (bad_lent w) _ _ (λ _. refusals cause.BadLength)
      (λ l. by_pick P (bad_state w) _ _ (λ _. refusals cause.Impossible) (λ p. on_is l p (status_at k w.row) refl))

module _ (w : World) (k : ℕ) (out : List ℕ) (P : Collected → Type 0) (refusals : (c : Refusal) → P (collect_refused w out c))
    (collects : (q : Request) → Collecting w k out q
    → P (collected (Ok (answer_size q)) (world_freed w k) (splice 0 (answer_at w k q) out))) where
  from_is : bad_lent w ≡ false → bad_state w ≡ false → (s : Status) → status_at k w.row ≡ s → P (collect_on w k out s)
  unfolding collect_on collect_finished
  from_is l p Free e = refusals cause.NoRequest
  from_is l p (Running m q) e = refusals cause.StillRunning
  from_is l p (Finished m q) e =
      by_pick P (ltb (length out) (answer_size q)) _ _ (λ _. refusals cause.ShortBuffer)
      (λ n. collects q (record { lent = l; possible = p; moves = m; now = e; enough = n }))

  pub collect_is : P (collect_of w k out)
  unfolding collect_of
  collect_is =
      by_pick P (bad_lent w) _ _ (λ _. refusals cause.BadLength)
      (λ l. by_pick P (bad_state w) _ _ (λ _. refusals cause.Impossible) (λ p. from_is l p (status_at k w.row) refl))

-- ---- a reset

pub reset_is : (w : World) (P : Reset → Type 0) → ((c : Refusal) → P (resetted (Err c) w))
    → (bad_row w ≡ false → P (resetted (Ok tt) (world_reset w))) → P (reset_of w)
unfolding reset_of
reset_is w P refusals done = by_pick P (bad_row w) _ _ (λ _. refusals cause.BadLength) done
