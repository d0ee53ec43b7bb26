-- The turns of the loop nest that looks for what makes an open state impossible, and that what it asks slot by slot is what the
-- conditions of 0x87 ask one after the other.
use Rattle.std.specs.Prelude.{◌≡◌, refl, Bool, true, false, not, List, [], ◌∷◌, ℕ}
use Rattle.std.proofs.Common.{sym, ◌∙◌, ap₂}
use Rattle.std.proofs.Math.Path.{ap}
use Rattle.words.specs.Choice.{either}
use Rattle.words.proofs.Tests.{neither}
use Rattle.context.specs.Layout.{fits_store}
use Rattle.context.specs.declared.Logs.{Logs}
use Rattle.slots.specs.Slots.{slot, is_occupied}
use Rattle.rows.specs.Rows.{any_slot, any_rest}
use Rattle.rows.proofs.Every.{each_none}
use Rattle.rows.proofs.Laws.{not_occupied}
use Rattle.slots.specs.declared.Slot.{Slot}
use Rattle.slots.specs.declared.Status.TheVariants.{Free}
use Rattle.slot_checks.specs.SlotChecks.{slot_wrong}
use Rattle.possible.specs.Possible.{command_before, two_commands, clash_before, holds_clash, open_impossible}
use Rattle.possible.specs.Possible.{both_commands, slots_clash, pair_wrong, wrong_with}
use Rattle.possible.proofs.Pairs.{commands_are, clashes_are}

-- ---- one slot with those behind it

pub wrong_not : (g : Logs) (s : Slot) (ss : List Slot) → slot_wrong g s ≡ false → any_slot (pair_wrong s) ss ≡ false
    → wrong_with g s ss ≡ false
unfolding wrong_with
wrong_not g s ss e f = neither (slot_wrong g s) (any_slot (pair_wrong s) ss) e f

pub wrong_slot : (g : Logs) (s : Slot) (ss : List Slot) → slot_wrong g s ≡ true → wrong_with g s ss ≡ true
unfolding wrong_with
wrong_slot g s ss e = ap (λ (b : Bool). either b (any_slot (pair_wrong s) ss)) e

pub wrong_pair : (g : Logs) (s : Slot) (ss : List Slot) → true ≡ any_slot (pair_wrong s) ss → wrong_with g s ss ≡ true
unfolding wrong_with
wrong_pair g s ss e = ap (either (slot_wrong g s)) (sym e) ∙ last (slot_wrong g s)
  where
    last : (b : Bool) → either b true ≡ true
    last true = refl
    last false = refl

-- a free slot is skipped
pub wrong_free : (g : Logs) (s : Slot) (ss : List Slot) → is_occupied s ≡ false → wrong_with g s ss ≡ false
unfolding wrong_with
wrong_free g s ss e =
    ap (λ (u : Slot). either (slot_wrong g u) (any_slot (pair_wrong u) ss)) (not_occupied s e)
    ∙ each_none (pair_wrong (slot Free)) ss (λ k. refl)

-- ---- the whole row

either_across : (a b c d : Bool) → either (either a b) (either c d) ≡ either (either a c) (either b d)
either_across true b c d = refl
either_across false true true d = refl
either_across false true false d = refl
either_across false false c d = refl

any_either : (p t : Slot → Bool) (ss : List Slot)
    → any_slot (λ (u : Slot). either (p u) (t u)) ss ≡ either (any_slot p ss) (any_slot t ss)
unfolding any_slot
any_either p t [] = refl
any_either p t (s ∷ ss) =
    ap (either (either (p s) (t s))) (any_either p t ss) ∙ either_across (p s) (t s) (any_slot p ss) (any_slot t ss)

rest_either : (p t : Slot → List Slot → Bool) (row : List Slot)
    → any_rest (λ (s : Slot) (ss : List Slot). either (p s ss) (t s ss)) row ≡ either (any_rest p row) (any_rest t row)
unfolding any_rest
rest_either p t [] = refl
rest_either p t (s ∷ ss) =
    ap (either (either (p s ss) (t s ss))) (rest_either p t ss)
    ∙ either_across (p s ss) (t s ss) (any_rest p ss) (any_rest t ss)

rest_alone : (p : Slot → Bool) (row : List Slot) → any_rest (λ (s : Slot) (ss : List Slot). p s) row ≡ any_slot p row
unfolding any_rest any_slot
rest_alone p [] = refl
rest_alone p (s ∷ ss) = ap (either (p s)) (rest_alone p ss)

rest_same : (p t : Slot → List Slot → Bool) → ((s : Slot) (ss : List Slot) → p s ss ≡ t s ss)
    → (row : List Slot) → any_rest p row ≡ any_rest t row
unfolding any_rest
rest_same p t e [] = refl
rest_same p t e (s ∷ ss) = ap₂ either (e s ss) (rest_same p t e ss)

-- slot by slot, or condition by condition
pub nest_is : (g : Logs) (row : List Slot)
    → any_rest (wrong_with g) row ≡ either (any_slot (slot_wrong g) row) (either (two_commands row) (holds_clash row))
unfolding wrong_with two_commands holds_clash
nest_is g row =
    rest_same (wrong_with g) each (λ s ss. ap (either (slot_wrong g s)) (pairs s ss)) row
    ∙ rest_either (λ (s : Slot) (ss : List Slot). slot_wrong g s) both_tests row
    ∙ ap₂ either (rest_alone (slot_wrong g) row) (rest_either command_before clash_before row)
  where
    both_tests : Slot → List Slot → Bool
    both_tests s ss = either (command_before s ss) (clash_before s ss)

    each : Slot → List Slot → Bool
    each s ss = either (slot_wrong g s) (both_tests s ss)

    pairs : (s : Slot) (ss : List Slot) → any_slot (pair_wrong s) ss ≡ either (command_before s ss) (clash_before s ss)
    pairs s ss =
        any_either (both_commands s) (slots_clash s) ss ∙ sym (ap₂ either (commands_are s ss) (clashes_are s ss))

-- ---- the answers

module _ (g : Logs) (store : ℕ) (row : List Slot) where
  rest : Bool → Bool
  rest x = either (not x) (either (any_slot (slot_wrong g) row) (either (two_commands row) (holds_clash row)))

  pub past_told : fits_store g store ≡ false → true ≡ open_impossible g store row
  unfolding open_impossible rest
  past_told f = ap rest (sym f)

  pub nest_told : (b : Bool) → fits_store g store ≡ true → b ≡ any_rest (wrong_with g) row → b ≡ open_impossible g store row
  unfolding open_impossible rest
  nest_told b f e = e ∙ nest_is g row ∙ ap rest (sym f)
