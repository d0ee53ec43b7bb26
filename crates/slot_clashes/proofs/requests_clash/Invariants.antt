use Rattle.std.proofs.Common.{◌≡◌, ◌≤◌, ◌-◌, drop}
use Rattle.holds.specs.Holds.{clash_records}
use Rattle.request_table.specs.Records.{list_of}
use Rattle.slot_clashes.proofs.requests_clash.Given as goal

abbrev pub invariant-loop-j : goal.invariant-loop-j
invariant-loop-j l = (l.j ≤ l.count) × (clash_records l.running l.writes (drop l.j (list_of l.records)) ≡ clash_records l.running l.writes (list_of l.records))

abbrev pub decreases-loop-j : goal.decreases-loop-j
decreases-loop-j l = l.count - l.j
