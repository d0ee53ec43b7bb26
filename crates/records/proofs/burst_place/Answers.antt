use Rattle.std.proofs.Common.{arith}
use Rattle.records.specs.Calls.{one_first, one_small, one_place}
use Rattle.records.proofs.burst_place.Goals as goal

pub overflow_add-result : goal.overflow_add-result
overflow_add-result c = omega (arith, one_small _ _ _ _ _ c.in-One.is c.requires.logs_value c.requires.all_records c.record_at.ensures c.requires.burst_size_bound)

pub returns-in-One : goal.returns-in-One
returns-in-One c =
    let one = c.in-One.is in
    rw one (one_place _ _ _ _ c.record_at.ensures (one_first _ _ _ one c.requires.burst_size_bound))
