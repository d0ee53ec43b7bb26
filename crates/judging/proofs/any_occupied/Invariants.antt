use Rattle.std.proofs.Common.{◌≡◌, false, ◌≤◌, ◌-◌}
use Rattle.device_bytes.specs.Decoding.{slots_of}
use Rattle.rows.specs.Rows.{any_slot}
use Rattle.slots.specs.Slots.{is_occupied}
use Rattle.judging.proofs.any_occupied.Given as goal

abbrev pub invariant-loop-k : goal.invariant-loop-k
invariant-loop-k l = (l.k ≤ 8) × (any_slot is_occupied (slots_of l.k l.dev) ≡ false)

abbrev pub decreases-loop-k : goal.decreases-loop-k
decreases-loop-k l = 8 - l.k
