use Rattle.std.proofs.Common.{arith}
use Rattle.records.specs.Calls.{place_small, burst_inside, write_leaves}
use borrow.Author.Rules.{rules}
use Rattle.records.proofs.write_burst.Goals as goal

pub overflow_add-at : goal.overflow_add-at
overflow_add-at c = omega (arith, place_small _ _ _ _ _ _ c.requires.moving _ c.offset-first.ensures c.requires.request_value _ c.record_place.ensures)

pub write_at-requires-clause-burst_size_in_bounds : goal.write_at-requires-clause-burst_size_in_bounds
write_at-requires-clause-burst_size_in_bounds c = search (rules, burst_inside)

pub returns : goal.returns
returns c = search (rules, write_leaves)
