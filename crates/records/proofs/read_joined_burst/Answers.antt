use Rattle.records.specs.Calls.{joined_offset, copy_asks, read_leaves}
use Rattle.records.proofs.read_joined_burst.Goals as goal

pub copy_burst-requires-clause-burst_size_in_bounds : goal.copy_burst-requires-clause-burst_size_in_bounds
copy_burst-requires-clause-burst_size_in_bounds c = let pre = c.requires in (copy_asks _ _ _ _ _ _ pre _ (joined_offset pre) _ c.three_place-from.ensures).0

pub returns : goal.returns
returns c =
    let pre = c.requires in
    read_leaves _ _ _ _ _ _ pre _ (joined_offset pre) _ c.three_place-from.ensures _
    c.copy_burst.ensures
