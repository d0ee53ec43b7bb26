-- `starts` says what the sum is, and that no part of it wraps.
use Rattle.std.proofs.Common.{arith}
use Rattle.context.proofs.Records.{Starts, starts}
use Rattle.store_tables.proofs.record_at.Goals as goal

sum : (c : goal.After-size)
    → Starts c.args.logs c.args.rec
    c.table_start.result c.number_of.result c.size.result
sum c =
    starts _ _ _ _ _ _
    c.requires.logs_value
    c.requires.rec_value
    c.kind_of-kind.ensures
    c.table_start.ensures
    c.number_of.ensures
    c.size.ensures

pub overflow_add-result : goal.overflow_add-result
overflow_add-result c = omega (arith, (sum c).small)

pub returns : goal.returns
returns c = (sum c).is
