use Rattle.std.proofs.Common.{◌≡◌, [], ◌∷◌, ◌≤◌, ◌-◌, drop}
use Rattle.device_bytes.specs.Decoding.{slots_of}
use Rattle.holds.specs.Holds.{clash_slot}
use Rattle.rows.specs.Rows.{any_slot}
use Rattle.device_scans.proofs.held.Given as goal

abbrev pub invariant-loop-i : goal.invariant-loop-i
invariant-loop-i l = (l.i ≤ 8) × (any_slot (clash_slot l.writes (l.rec ∷ [])) (drop l.i (slots_of 8 l.dev)) ≡ any_slot (clash_slot l.writes (l.rec ∷ [])) (slots_of 8 l.dev))

abbrev pub decreases-loop-i : goal.decreases-loop-i
decreases-loop-i l = 8 - l.i
