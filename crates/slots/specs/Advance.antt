-- One burst more, as the code counts it: by the bursts left.
use Rattle.std.specs.Prelude.{◌≡◌, ℕ, ◌+◌, ◌-◌, ◌≤◌, ◌<◌}
use Rattle.std.proofs.Common.{arith, lt-ltb, le-ltb}
use Rattle.burst_table.specs.Bursts.{total_of}
use Rattle.slots.specs.Slots.{Held, advanced_status}
use Rattle.slots.specs.declared.Status.{Status}
use Rattle.slots.specs.declared.Status.TheVariants.{Running, Finished}

-- a burst that is not the last
pub moves_on : (s : Status) (q : Held) (m l : ℕ) → s ≡ Running m q → l ≡ total_of q - m → 1 < l
    → Running (m + 1) q ≡ advanced_status s
moves_on s q m l e f h =
    let k : m + 1 < total_of q = omega (arith, f) in
    rw (e, lt-ltb (m + 1) (total_of q) k)

-- the last burst
pub finishes : (s : Status) (q : Held) (m l t : ℕ) → s ≡ Running m q → t ≡ total_of q → l ≡ total_of q - m → l ≤ 1
    → Finished t q ≡ advanced_status s
finishes s q m l t e f g h =
    let k : total_of q ≤ m + 1 = omega (arith, g) in
    rw (e, le-ltb (m + 1) (total_of q) k, f)
