use Rattle.std.proofs.Common.{◌≡◌, ◌≤◌, ◌-◌, drop}
use Rattle.possible.specs.Possible.{pair_wrong, wrong_with}
use Rattle.rows.proofs.Every.{at}
use Rattle.rows.specs.Rows.{any_slot, any_rest}
use Rattle.state_checks.proofs.open_impossible.Given as goal

abbrev pub invariant-loop-j : goal.invariant-loop-j
invariant-loop-j l = (l.next ≤ l.j) × (l.j ≤ 8) × (any_slot (pair_wrong (at l.row l.i)) (drop l.j l.row) ≡ any_slot (pair_wrong (at l.row l.i)) (drop l.next l.row))

abbrev pub decreases-loop-j : goal.decreases-loop-j
decreases-loop-j l = 8 - l.j

abbrev pub invariant-loop-i : goal.invariant-loop-i
invariant-loop-i l = (l.i ≤ 8) × (any_rest (wrong_with l.logs) (drop l.i l.row) ≡ any_rest (wrong_with l.logs) l.row)

abbrev pub decreases-loop-i : goal.decreases-loop-i
decreases-loop-i l = 8 - l.i
