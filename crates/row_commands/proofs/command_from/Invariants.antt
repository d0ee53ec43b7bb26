use Rattle.std.proofs.Common.{◌≡◌, ◌≤◌, ◌-◌, drop}
use Rattle.rows.specs.Rows.{any_slot}
use Rattle.slots.specs.Slots.{has_command}
use Rattle.row_commands.proofs.command_from.Given as goal

abbrev pub invariant-loop-i : goal.invariant-loop-i
invariant-loop-i l = (l.start ≤ l.i) × (l.i ≤ 8) × (any_slot has_command (drop l.i l.row) ≡ any_slot has_command (drop l.start l.row))

abbrev pub decreases-loop-i : goal.decreases-loop-i
decreases-loop-i l = 8 - l.i
