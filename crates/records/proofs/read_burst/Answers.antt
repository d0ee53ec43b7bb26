use Rattle.records.specs.Calls.{first_joined, copy_asks, read_leaves, place_told}
use Rattle.records.proofs.read_burst.Goals as goal

pub burst_place-from-requires-clause-burst_size_bound : goal.burst_place-from-requires-clause-burst_size_bound
burst_place-from-requires-clause-burst_size_bound c =
    let pre = c.requires in
    let inside = first_joined _ _ _ _ _ _ pre _ c.offset-first.ensures in rw c.records_of.ensures inside

pub copy_burst-requires-clause-burst_size_in_bounds : goal.copy_burst-requires-clause-burst_size_in_bounds
copy_burst-requires-clause-burst_size_in_bounds c =
    let pre = c.requires in
    let asked = c.args.request in
    let from_is = place_told _ asked _ _ _ c.records_of.ensures c.burst_place-from.ensures in (copy_asks _ _ _ _ _ _ pre _ c.offset-first.ensures _ from_is).0

pub copy_burst-requires-clause-burst_size_in_bounds_2 : goal.copy_burst-requires-clause-burst_size_in_bounds_2
copy_burst-requires-clause-burst_size_in_bounds_2 c =
    let pre = c.requires in
    let asked = c.args.request in
    let from_is = place_told _ asked _ _ _ c.records_of.ensures c.burst_place-from.ensures in (copy_asks _ _ _ _ _ _ pre _ c.offset-first.ensures _ from_is).1.1

pub returns : goal.returns
returns c =
    let pre = c.requires in
    let asked = c.args.request in
    let from_is = place_told _ asked _ _ _ c.records_of.ensures c.burst_place-from.ensures in
    read_leaves _ _ _ _ _ _ pre _ c.offset-first.ensures _ from_is _ c.copy_burst.ensures
