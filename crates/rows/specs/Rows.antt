-- The empty row, and questions about a row of slots of any length.
use Rattle.std.specs.Prelude.{Bool, false, List, [], ◌∷◌, ℕ, suc, replicate, Option, Some, None}
use Rattle.words.specs.Choice.{pick, either}
use Rattle.slots.specs.Slots.{slot, is_occupied}
use Rattle.slots.specs.declared.Slot.{Slot}
use Rattle.slots.specs.declared.Status.TheVariants.{Free}

-- a slot of the row passes the test
unfoldable pub any_slot : (Slot → Bool) → List Slot → Bool
any_slot p [] = false
any_slot p (s ∷ ss) = either (p s) (any_slot p ss)

-- a slot of the row passes the test with those behind it
unfoldable pub any_rest : (Slot → List Slot → Bool) → List Slot → Bool
any_rest p [] = false
any_rest p (s ∷ ss) = either (p s ss) (any_rest p ss)

-- the lowest free slot, which submission takes, of a row whose first slot has the number k (01, Bursts, slots and holds)
unfoldable pub lowest_free : ℕ → List Slot → Option ℕ
lowest_free k [] = None
lowest_free k (s ∷ ss) = pick (is_occupied s) (lowest_free (suc k) ss) (Some k)

-- the row that reset leaves (01, Bursts, slots and holds)
abbrev pub empty_row : List Slot
empty_row = replicate 8 (slot Free)
