use Rattle.std.proofs.Common.{◌≡◌, ◌≤◌, ◌-◌, drop}
use Rattle.rows.specs.Rows.{any_slot}
use Rattle.slots.specs.Slots.{is_occupied}
use Rattle.row_scans.proofs.any_occupied.Given as goal

abbrev pub invariant-loop-k : goal.invariant-loop-k
invariant-loop-k l = (l.k ≤ 8) × (any_slot is_occupied (drop l.k l.row) ≡ any_slot is_occupied l.row)

abbrev pub decreases-loop-k : goal.decreases-loop-k
decreases-loop-k l = 8 - l.k
