-- A step of a row by value, as its tests find it: what the refusals make of it, and the slot that was looked up.
use Rattle.std.specs.Prelude.{◌≡◌, Bool, false, List, [], ◌∷◌, ℕ, length, get_or}
use Rattle.std.proofs.Common.{◌∙◌}
use types.Run.{OneOf}
use denote.Enum.Declared.{tag_of, declared}
use Rattle.burst_table.specs.Sizes.{slot_count}
use Rattle.slots.specs.Slots.{slot}
use Rattle.slots.specs.declared.Slot.{Slot}
use Rattle.slots.specs.declared.Status.{Status}
use Rattle.slots.specs.declared.Status.TheVariants.{Free}
use Rattle.slots.specs.contracts.Status as Status'
use Rattle.possible.specs.Possible.{impossible}
use Rattle.possible.specs.declared.Hca.{Hca}
use Rattle.rules.specs.declared.Refusal.{Refusal}
use Rattle.rules.specs.declared.Refusal.TheVariants as cause
use Rattle.rules.specs.World.{world}
use Rattle.rules.specs.Steps.{Stepped as After, step_refused, step_on}
use Rattle.lengths.specs.Lengths.{lengths_wrong}
use Rattle.lengths.proofs.Lengths.{passing}
use Rattle.handed_back.specs.Handed.{step_handed, step_refusal}
use Rattle.handed_back.proofs.Handed.{step_refusal_lem}
use Rattle.handed_back.specs.declared.HandedBack.{HandedBack}
use Rattle.moving.specs.Steps.{LookedUp, step_none}

module _ (h : Hca) (row : List Slot) (store room : List ℕ) (k : ℕ) where
  -- no request runs in the slot
  pub none_runs : (t : Status) (r : HandedBack ℕ) → OneOf (0 ∷ 2 ∷ []) (tag_of (declared Status'.enum) t)
      → r ≡ step_refusal row cause.NoRequest → step_handed h row store room r ≡ step_on (world h row store room) k t
  none_runs t r o e = step_refusal_lem h row store room cause.NoRequest r e ∙ step_none (world h row store room) k t o

  -- the first tests, as the calls answered them
  pub step_refused_lem : (c : Refusal) (r : HandedBack ℕ) (y : After) → r ≡ step_refusal row c → step_refused (world h row store room) c ≡ y
      → step_handed h row store room r ≡ y
  step_refused_lem c r y e f = step_refusal_lem h row store room c r e ∙ f

  pub looked_up : (a b : Bool) (s : Slot) → length row ≡ slot_count → a ≡ lengths_wrong h (length store) (length room) → a ≡ false
      → b ≡ impossible h row → b ≡ false → s ≡ get_or row k (slot Free) → LookedUp (world h row store room) k s
  looked_up a b s n e f p q i = record { passing = passing h row store room a b n e f p q; is = i }
