use Rattle.std.proofs.Common.{◌≡◌, ℕ, ◌+◌, ◌<◌, ◌≤◌, arith}
use Rattle.burst_table.specs.Bursts.{total_of, offset_of}
use Rattle.burst_table.proofs.Laws.{offset_room}
use Rattle.burst_table.specs.Sizes.{burst_size, slot_room}
use Rattle.requests.specs.declared.Request.{Request}
use Rattle.whole_effects.proofs.move_bursts.Goals as goal

-- burst m lies in as many bytes as a slot's part of the room has
placed : (q : Request) (m total first : ℕ) → m < total → total ≡ total_of q → first ≡ offset_of q m → first + burst_size ≤ slot_room
placed q m total first h e p = omega (arith, offset_room q m (omega arith))

pub overflow_add-first : goal.overflow_add-first
overflow_add-first c = omega (arith, placed c.args.request _ _ _ c.loop-m-test.true c.total-m-end.ensures c.offset-first.ensures)

pub write_at-requires-clause-burst_size_in_bounds : goal.write_at-requires-clause-burst_size_in_bounds
write_at-requires-clause-burst_size_in_bounds c = omega (arith, placed c.args.request _ _ _ c.loop-m-test.true c.total-m-end.ensures c.offset-first.ensures)

pub write_at-requires-clause-burst_size_bound : goal.write_at-requires-clause-burst_size_bound
write_at-requires-clause-burst_size_bound c = placed c.args.request _ _ _ c.loop-m-test.true c.total-m-end.ensures c.offset-first.ensures
