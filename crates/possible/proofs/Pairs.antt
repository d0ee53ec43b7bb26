-- The two conditions on pairs of slots, one command at a time and no clash of holds, as tests of two slots.
use Rattle.std.specs.Prelude.{◌≡◌, refl, Bool, true, false, List}
use Rattle.std.proofs.Common.{sym, ◌∙◌}
use Rattle.words.specs.Choice.{both}
use Rattle.words.proofs.Tests.{both_swap, both_false}
use Rattle.slots.specs.Slots.{slot, has_command}
use Rattle.rows.specs.Rows.{any_slot}
use Rattle.holds.specs.Holds.{held_against}
use Rattle.rows.proofs.Every.{NoTwo, none_pairs, pairs_none, each_none}
use Rattle.holds.proofs.Laws.{clash_symmetric}
use Rattle.slots.specs.declared.Slot.{Slot}
use Rattle.slots.specs.declared.Status.{Status}
use Rattle.slots.specs.declared.Status.TheVariants.{Free, Running, Finished}
use Rattle.possible.specs.Possible.{command_before, two_commands, status_clash, clash_before, holds_clash}
use Rattle.possible.specs.Possible.{both_commands, statuses_clash, slots_clash}

-- ---- commands

pub commands_are : (s : Slot) (ss : List Slot) → command_before s ss ≡ any_slot (both_commands s) ss
unfolding command_before
commands_are s ss = go (has_command s) ss
  where
    go : (b : Bool) (ss : List Slot) → both b (any_slot has_command ss) ≡ any_slot (λ (u : Slot). both b (has_command u)) ss
    go true ss = refl
    go false ss = sym (each_none (λ (u : Slot). false) ss (λ k. refl))

pub commands_swap : (s u : Slot) → both_commands s u ≡ both_commands u s
commands_swap s u = both_swap (has_command s) (has_command u)

commands_free : (s : Slot) → both_commands s (slot Free) ≡ false
commands_free s = both_false (has_command s) false refl

pub commands_pairs : (row : List Slot) → two_commands row ≡ false → NoTwo both_commands row
unfolding two_commands
commands_pairs row e = none_pairs command_before both_commands commands_are commands_swap commands_free row e

pub pairs_commands : (row : List Slot) → NoTwo both_commands row → two_commands row ≡ false
unfolding two_commands
pairs_commands row h = pairs_none command_before both_commands commands_are row h

-- ---- holds

pub clashes_are : (s : Slot) (ss : List Slot) → clash_before s ss ≡ any_slot (slots_clash s) ss
unfolding held_against
clashes_are s ss = go s.status
  where
    go : (t : Status) → status_clash t ss ≡ any_slot (λ (u : Slot). statuses_clash t u.status) ss
    go Free = sym (each_none (λ (u : Slot). false) ss (λ k. refl))
    go (Running m q) = refl
    go (Finished m q) = sym (each_none (λ (u : Slot). false) ss (λ k. refl))

statuses_swap : (s t : Status) → statuses_clash s t ≡ statuses_clash t s
statuses_swap Free Free = refl
statuses_swap Free (Running n r) = refl
statuses_swap Free (Finished n r) = refl
statuses_swap (Running m q) Free = refl
statuses_swap (Running m q) (Running n r) = clash_symmetric r q
statuses_swap (Running m q) (Finished n r) = refl
statuses_swap (Finished m q) Free = refl
statuses_swap (Finished m q) (Running n r) = refl
statuses_swap (Finished m q) (Finished n r) = refl

pub clashes_swap : (s u : Slot) → slots_clash s u ≡ slots_clash u s
clashes_swap s u = statuses_swap s.status u.status

clashes_free : (s : Slot) → slots_clash s (slot Free) ≡ false
clashes_free s = clashes_swap s (slot Free)

pub clashes_pairs : (row : List Slot) → holds_clash row ≡ false → NoTwo slots_clash row
unfolding holds_clash
clashes_pairs row e = none_pairs clash_before slots_clash clashes_are clashes_swap clashes_free row e

pub pairs_clashes : (row : List Slot) → NoTwo slots_clash row → holds_clash row ≡ false
unfolding holds_clash
pairs_clashes row h = pairs_none clash_before slots_clash clashes_are row h
