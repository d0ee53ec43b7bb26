-- What is known of slots of which none is wrong and no two of which do not go together, and that one more such slot keeps it.
use Rattle.std.specs.Prelude.{◌≡◌, Bool, true, false, List, [], ◌∷◌, ℕ, zero, suc, ◌<◌, length, get_or, set}
use Rattle.std.proofs.Math.Path.{refl}
use Rattle.std.proofs.Common.{◌∙◌, ap, arith}
use Rattle.words.specs.Choice.{either}
use Rattle.words.proofs.Tests.{neither_left, neither_right, neither, either_swap, either_assoc}
use Rattle.context.specs.declared.Logs.{Logs}
use Rattle.slots.specs.Slots.{has_command}
use Rattle.slots.specs.declared.Slot.{Slot}
use Rattle.rows.specs.Rows.{any_slot, empty_row}
use Rattle.rows.proofs.Every.{at, NoneOf, NoTwo, none_each, each_none, none_set, pairs_set}
use Rattle.slot_checks.specs.SlotChecks.{slot_wrong}
use Rattle.possible.specs.Possible.{two_commands, both_commands, slots_clash}
use Rattle.possible.proofs.Pairs.{commands_swap, commands_pairs, pairs_commands, clashes_swap, clashes_pairs, pairs_clashes}
use Rattle.device_bytes.proofs.Walks.{free_empty}
use Rattle.hold_codes.specs.Codes.{no_hold, hold_of}
use Rattle.hold_codes.specs.declared.Hold.{Hold}
use Rattle.judging.specs.Judging.{holds_row, slots_impossible}

pub record Sound (g : Logs) (row : List Slot) : Type 0 where
  pub right : NoneOf (slot_wrong g) row
  pub commands : NoTwo both_commands row
  pub holds : NoTwo slots_clash row

module _ (g : Logs) (row : List Slot) where
  pub row_sound : slots_impossible g row ≡ false → Sound g row
  unfolding slots_impossible
  row_sound e =
      let pairs = neither_right (any_slot (slot_wrong g) row) _ e in
      record {
        right = none_each (slot_wrong g) row refl (neither_left (any_slot (slot_wrong g) row) _ e);
        commands = commands_pairs row (neither_left (two_commands row) _ pairs);
        holds = clashes_pairs row (neither_right (two_commands row) _ pairs);
      }

  pub sound_row : Sound g row → slots_impossible g row ≡ false
  unfolding slots_impossible
  sound_row o =
      neither (any_slot (slot_wrong g) row) _ (each_none (slot_wrong g) row o.right)
      (neither (two_commands row) _ (pairs_commands row o.commands) (pairs_clashes row o.holds))

  -- slots that are not sound are impossible
  pub contrary : (Sound g row → ⊥) → true ≡ slots_impossible g row
  contrary f = go (slots_impossible g row) refl
    where
      go : (b : Bool) → slots_impossible g row ≡ b → true ≡ b
      go true e = refl
      go false e = absurd (f (row_sound e))

  -- slot k becomes s
  pub sound_changed : (k : ℕ) (s : Slot) → slot_wrong g s ≡ false
      → ((i : ℕ) → ¬ (i ≡ k) → both_commands s (at row i) ≡ false)
      → ((i : ℕ) → ¬ (i ≡ k) → slots_clash s (at row i) ≡ false)
      → Sound g row → Sound g (set row k s)
  sound_changed k s e c h o =
      record {
        right = none_set (slot_wrong g) row k s e o.right;
        commands = pairs_set both_commands row k s commands_swap c o.commands;
        holds = pairs_set slots_clash row k s clashes_swap h o.holds;
      }

pub empty_sound : (g : Logs) → Sound g empty_row
empty_sound g =
    record {
      right = λ k. ap (slot_wrong g) (free_empty 8 k);
      commands = λ i j n. ap (λ (s : Slot). both_commands s (at empty_row j)) (free_empty 8 i);
      holds = λ i j n. ap (λ (s : Slot). slots_clash s (at empty_row j)) (free_empty 8 i);
    }

-- a slot without a command is replaced
pub set_any : (row : List Slot) (k : ℕ) (s : Slot) → k < length row → has_command (at row k) ≡ false
    → either (any_slot has_command row) (has_command s) ≡ any_slot has_command (set row k s)
unfolding any_slot
set_any [] k s h e = absurd (omega arith)
set_any (x ∷ row) zero s h e = rw e (either_swap (any_slot has_command row) (has_command s))
set_any (x ∷ row) (suc k) s h e =
    either_assoc (has_command x) (any_slot has_command row) (has_command s) ∙ ap (either (has_command x)) (set_any row k s (omega arith) e)

-- ---- the holds of a row

pub holds_at : (row : List Slot) (j : ℕ) → get_or (holds_row row) j no_hold ≡ hold_of (at row j)
holds_at [] j = refl
holds_at (s ∷ ss) zero = refl
holds_at (s ∷ ss) (suc j) = holds_at ss j

pub holds_set : (row : List Slot) (k : ℕ) (s : Slot) → set (holds_row row) k (hold_of s) ≡ holds_row (set row k s)
holds_set [] k s = refl
holds_set (x ∷ row) zero s = refl
holds_set (x ∷ row) (suc k) s = ap (λ (l : List Hold). hold_of x ∷ l) (holds_set row k s)
