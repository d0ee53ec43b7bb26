use Rattle.std.proofs.Common.{arith}
use Rattle.context.proofs.Counts.{ranges}
use Rattle.store_tables.proofs.table_start.Goals as goal

pub count-cqs-requires : goal.count-cqs-requires
count-cqs-requires c = omega (arith, (ranges _ c.requires).qps)

pub count-requires : goal.count-requires
count-requires c = omega (arith, (ranges _ c.requires).cqs)

pub count-requires-2 : goal.count-requires-2
count-requires-2 c = omega (arith, (ranges _ c.requires).eqs)
