use Rattle.std.proofs.Common.{arith}
use Rattle.context.proofs.Counts.{ranges, start_small}
use Rattle.context.specs.declared.Kind.TheVariants as kind
use Rattle.store_tables.proofs.bytes_in_use.Goals as goal

pub count-requires : goal.count-requires
count-requires c = omega (arith, (ranges _ c.requires).mpts)

pub overflow_add-result : goal.overflow_add-result
overflow_add-result c = omega (arith, start_small c.args.logs kind.Mpt c.requires)
