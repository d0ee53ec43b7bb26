use Rattle.std.proofs.Common.{◌≡◌, ◌≤◌, ◌-◌, drop}
use Rattle.device_bytes.specs.Decoding.{slots_of}
use Rattle.rows.specs.Rows.{lowest_free}
use Rattle.device_scans.proofs.lowest_free.Given as goal

abbrev pub invariant-loop-k : goal.invariant-loop-k
invariant-loop-k l = (l.k ≤ 8) × (lowest_free l.k (drop l.k (slots_of 8 l.dev)) ≡ lowest_free 0 (slots_of 8 l.dev))

abbrev pub decreases-loop-k : goal.decreases-loop-k
decreases-loop-k l = 8 - l.k
