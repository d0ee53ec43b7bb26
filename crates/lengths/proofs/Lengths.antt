-- Laws about the definitions of specs/Lengths.antt.
use Rattle.std.specs.Prelude.{◌≡◌, Bool, false, List, ℕ, length}
use Rattle.std.proofs.Common.{sym, ◌∙◌, eq-eqb}
use Rattle.burst_table.specs.Sizes.{slot_count}
use Rattle.slots.specs.declared.Slot.{Slot}
use Rattle.possible.specs.Possible.{impossible}
use Rattle.possible.specs.declared.Hca.{Hca}
use Rattle.rules.specs.World.{world, bad_row, bad_store, bad_lent, bad_state}
use Rattle.rules.specs.Laws.Decided.{Passing}
use Rattle.lengths.specs.Lengths.{lengths_wrong}

module _ (h : Hca) (row : List Slot) (store room : List ℕ) (n : length row ≡ slot_count) where
  pub lengths_lent : bad_lent (world h row store room) ≡ lengths_wrong h (length store) (length room)
  unfolding lengths_wrong bad_lent bad_row bad_store
  lengths_lent = rw (eq-eqb (length row) slot_count n)

-- as the two tests answered
pub lent_told : (h : Hca) (row : List Slot) (store room : List ℕ) (b t : Bool) → length row ≡ slot_count
    → b ≡ lengths_wrong h (length store) (length room) → b ≡ t → bad_lent (world h row store room) ≡ t
lent_told h row store room b t n e f = lengths_lent h row store room n ∙ sym e ∙ f

pub passing : (h : Hca) (row : List Slot) (store room : List ℕ) (a b : Bool) → length row ≡ slot_count
    → a ≡ lengths_wrong h (length store) (length room) → a ≡ false → b ≡ impossible h row → b ≡ false
    → Passing (world h row store room)
unfolding bad_state
passing h row store room a b n e f p q = record { lent = lent_told h row store room a false n e f; possible = sym p ∙ q }
