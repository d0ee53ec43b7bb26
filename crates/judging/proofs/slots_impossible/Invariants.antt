use Rattle.std.proofs.Common.{◌≡◌, false, ℕ, ◌≤◌, ◌<◌, ◌-◌, get_or}
use Rattle.hold_codes.specs.Codes.{no_hold, has_code}
use Rattle.judging.specs.Scan.{Passed}
use Rattle.judging.specs.Writers.{Writers}
use Rattle.judging.proofs.slots_impossible.Given as goal

abbrev pub invariant-loop-j : goal.invariant-loop-j
invariant-loop-j l = (l.j ≤ l.writers) × ((m : ℕ) → m < l.j → has_code l.hold (get_or l.written m 0) ≡ false)

abbrev pub decreases-loop-j : goal.decreases-loop-j
decreases-loop-j l = l.writers - l.j

abbrev pub invariant-loop-j-2 : goal.invariant-loop-j-2
invariant-loop-j-2 l = (l.j ≤ l.i) × ((m : ℕ) → m < l.j → has_code (get_or l.holds m no_hold) l.hold.written ≡ false)

abbrev pub decreases-loop-j-2 : goal.decreases-loop-j-2
decreases-loop-j-2 l = l.i - l.j

abbrev pub invariant-loop-i : goal.invariant-loop-i
invariant-loop-i l = (l.i ≤ 8) × Passed l.logs l.dev l.i l.holds l.seen × Writers l.holds l.i l.written l.writers

abbrev pub decreases-loop-i : goal.decreases-loop-i
decreases-loop-i l = 8 - l.i
