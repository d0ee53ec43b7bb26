use Rattle.context.proofs.Counts.{below_wide}
use Rattle.record_kinds.proofs.below_count.Goals as goal

pub returns-then-log-ge32 : goal.returns-then-log-ge32
returns-then-log-ge32 c = below_wide _ _ c.ranges.n.fits c.if-log-ge32.true
