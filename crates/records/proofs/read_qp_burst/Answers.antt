use Rattle.std.proofs.Common.{arith}
use Rattle.records.specs.Calls.{qp_offset, qp_from, qp_small, copy_asks, read_leaves}
use Rattle.records.proofs.read_qp_burst.Goals as goal

pub overflow_add-from : goal.overflow_add-from
overflow_add-from c = omega (arith, qp_small c.requires _ c.record_at.ensures)

pub copy_burst-requires-clause-burst_size_in_bounds : goal.copy_burst-requires-clause-burst_size_in_bounds
copy_burst-requires-clause-burst_size_in_bounds c = let pre = c.requires in (copy_asks _ _ _ _ _ _ pre _ (qp_offset pre) _ (qp_from pre _ c.record_at.ensures)).0

pub returns : goal.returns
returns c =
    let pre = c.requires in
    read_leaves _ _ _ _ _ _ pre _ (qp_offset pre) _ (qp_from pre _ c.record_at.ensures) _
    c.copy_burst.ensures
