-- What is known of a row in an open state that is not impossible, and which changes of one slot keep it so.
use Rattle.std.specs.Prelude.{◌≡◌, Bool, true, false, List, ℕ, ◌+◌, ◌<◌, ltb, set}
use Rattle.std.proofs.Math.Path.{refl}
use Rattle.std.proofs.Common.{sym, ◌∙◌, ap, arith}
use Rattle.std.proofs.Math.Bool.{not}
use borrow.Author.Tests.{not-false, lt-ltb, eq-eqb}
use Rattle.words.specs.Choice.{both}
use Rattle.words.proofs.Choice.{by_pick}
use Rattle.context.specs.Layout.{fits_store}
use Rattle.context.specs.declared.Logs.{Logs}
use Rattle.request_table.specs.Records.{numbers_hold, is_command}
use Rattle.burst_table.specs.Bursts.{total_of}
use Rattle.words.proofs.Tests.{neither_left, neither_right, neither, both_false}
use Rattle.slots.specs.Slots.{Held, slot, advanced_status, advanced, command_status, has_command}
use Rattle.rows.specs.Rows.{any_slot}
use Rattle.holds.specs.Holds.{held_against}
use Rattle.burst_table.proofs.Totals.{total_positive}
use Rattle.rows.proofs.Every.{at, NoneOf, NoTwo, none_each, each_none, none_set, pairs_set}
use Rattle.rows.proofs.Laws.{none_command}
use Rattle.holds.proofs.Laws.{held_each}
use Rattle.slots.specs.declared.Slot.{Slot}
use Rattle.slots.specs.declared.Status.{Status}
use Rattle.slots.specs.declared.Status.TheVariants.{Free, Running, Finished}
use Rattle.slot_checks.specs.SlotChecks.{status_wrong, slot_wrong}
use Rattle.possible.specs.Possible.{two_commands, open_impossible, both_commands, statuses_clash, slots_clash}
use Rattle.possible.proofs.Pairs.{commands_swap, commands_pairs, pairs_commands, clashes_swap, clashes_pairs, pairs_clashes}

pub record OpenRow (g : Logs) (store : ℕ) (row : List Slot) : Type 0 where
  pub fits : fits_store g store ≡ true
  pub right : NoneOf (slot_wrong g) row
  pub commands : NoTwo both_commands row
  pub holds : NoTwo slots_clash row

module _ (g : Logs) (store : ℕ) (row : List Slot) where
  pub open_row : open_impossible g store row ≡ false → OpenRow g store row
  unfolding open_impossible
  open_row e =
      let wrong = neither_right (not (fits_store g store)) _ e in
      let pairs = neither_right (any_slot (slot_wrong g) row) _ wrong in
      record {
        fits = not-false (fits_store g store) (neither_left (not (fits_store g store)) _ e);
        right = none_each (slot_wrong g) row refl (neither_left (any_slot (slot_wrong g) row) _ wrong);
        commands = commands_pairs row (neither_left (two_commands row) _ pairs);
        holds = clashes_pairs row (neither_right (two_commands row) _ pairs);
      }

  pub row_open : OpenRow g store row → open_impossible g store row ≡ false
  unfolding open_impossible
  row_open o =
      neither (not (fits_store g store)) _ (ap not o.fits)
      (neither (any_slot (slot_wrong g) row) _ (each_none (slot_wrong g) row o.right)
      (neither (two_commands row) _ (pairs_commands row o.commands)
      (pairs_clashes row o.holds)))

  -- slot k becomes s
  pub row_changed : (k : ℕ) (s : Slot) → slot_wrong g s ≡ false
      → ((i : ℕ) → ¬ (i ≡ k) → both_commands s (at row i) ≡ false)
      → ((i : ℕ) → ¬ (i ≡ k) → slots_clash s (at row i) ≡ false)
      → OpenRow g store row → OpenRow g store (set row k s)
  row_changed k s e c h o =
      record {
        fits = o.fits;
        right = none_set (slot_wrong g) row k s e o.right;
        commands = pairs_set both_commands row k s commands_swap c o.commands;
        holds = pairs_set slots_clash row k s clashes_swap h o.holds;
      }

-- ---- a request accepted

accepted_right : (g : Logs) (q : Held) → numbers_hold g q ≡ true → status_wrong g (Running 0 q) ≡ false
accepted_right g q h =
    let z : 0 < total_of q = omega (arith, total_positive q) in
    neither (not (numbers_hold g q)) _ (ap not h) (ap not (lt-ltb 0 (total_of q) z))

accepted_command : (row : List Slot) (q : Held) → (is_command q ≡ true → any_slot has_command row ≡ false)
    → (i : ℕ) → both_commands (slot (Running 0 q)) (at row i) ≡ false
accepted_command row q h i = go (is_command q) refl
  where
    go : (b : Bool) → is_command q ≡ b → both (is_command q) (has_command (at row i)) ≡ false
    go true e = both_false (is_command q) (has_command (at row i)) (none_command row (h e) i)
    go false e = rw e

pub row_accepted : (g : Logs) (store : ℕ) (row : List Slot) (k : ℕ) (q : Held) → numbers_hold g q ≡ true
    → held_against row q ≡ false → (is_command q ≡ true → any_slot has_command row ≡ false)
    → OpenRow g store row → OpenRow g store (set row k (slot (Running 0 q)))
row_accepted g store row k q n h c o =
    row_changed g store row k (slot (Running 0 q)) (accepted_right g q n)
    (λ i m. accepted_command row q c i)
    (λ i m. held_each row q h i)
    o

-- ---- a burst moved

advanced_right : (g : Logs) (s : Status) → status_wrong g s ≡ false → status_wrong g (advanced_status s) ≡ false
advanced_right g Free e = refl
advanced_right g (Running m q) e =
    let n : not (numbers_hold g q) ≡ false = neither_left (not (numbers_hold g q)) _ e in
    by_pick (λ (s : Status). status_wrong g s ≡ false) (ltb (m + 1) (total_of q)) (Running (m + 1) q) (Finished (total_of q) q)
    (λ h. neither (not (numbers_hold g q)) _ n (ap not h))
    (λ h. neither (not (numbers_hold g q)) _ n (ap not (eq-eqb (total_of q) (total_of q) refl)))
advanced_right g (Finished m q) e = e

advanced_command : (s : Status) → command_status (advanced_status s) ≡ command_status s
advanced_command Free = refl
advanced_command (Running m q) =
    by_pick (λ (s : Status). command_status s ≡ is_command q) (ltb (m + 1) (total_of q)) (Running (m + 1) q) (Finished (total_of q) q)
    (λ h. refl)
    (λ h. refl)
advanced_command (Finished m q) = refl

advanced_clash : (s t : Status) → statuses_clash s t ≡ false → statuses_clash (advanced_status s) t ≡ false
advanced_clash Free t e = refl
advanced_clash (Running m q) t e =
    by_pick (λ (s : Status). statuses_clash s t ≡ false) (ltb (m + 1) (total_of q)) (Running (m + 1) q) (Finished (total_of q) q)
    (λ h. e)
    (λ h. refl)
advanced_clash (Finished m q) t e = refl

pub row_advanced : (g : Logs) (store : ℕ) (row : List Slot) (k : ℕ) → OpenRow g store row
    → OpenRow g store (set row k (advanced (at row k)))
row_advanced g store row k o =
    row_changed g store row k (advanced (at row k)) (advanced_right g (at row k).status (o.right k))
    (λ i m. ap (λ (b : Bool). both b (has_command (at row i))) (advanced_command (at row k).status) ∙ o.commands k i (λ e. m (sym e)))
    (λ i m. advanced_clash (at row k).status (at row i).status (o.holds k i (λ e. m (sym e))))
    o

-- ---- a slot freed

pub row_freed : (g : Logs) (store : ℕ) (row : List Slot) (k : ℕ) → OpenRow g store row
    → OpenRow g store (set row k (slot Free))
row_freed g store row k o = row_changed g store row k (slot Free) refl (λ i m. refl) (λ i m. refl) o
