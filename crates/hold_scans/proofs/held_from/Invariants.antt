use Rattle.std.proofs.Common.{◌≡◌, ◌≤◌, ◌-◌, drop}
use Rattle.holds.specs.Holds.{clash_records, clash_slot}
use Rattle.request_table.specs.Records.{list_of}
use Rattle.rows.specs.Rows.{any_slot}
use Rattle.hold_scans.proofs.held_from.Given as goal

abbrev pub invariant-loop-j : goal.invariant-loop-j
invariant-loop-j l = (l.j ≤ l.count) × (clash_records l.running l.writes (drop l.j (list_of l.records)) ≡ clash_records l.running l.writes (list_of l.records))

abbrev pub decreases-loop-j : goal.decreases-loop-j
decreases-loop-j l = l.count - l.j

abbrev pub invariant-loop-i : goal.invariant-loop-i
invariant-loop-i l = (l.start ≤ l.i) × (l.i ≤ 8) × (any_slot (clash_slot l.writes (list_of l.records)) (drop l.i l.row) ≡ any_slot (clash_slot l.writes (list_of l.records)) (drop l.start l.row))

abbrev pub decreases-loop-i : goal.decreases-loop-i
decreases-loop-i l = 8 - l.i
