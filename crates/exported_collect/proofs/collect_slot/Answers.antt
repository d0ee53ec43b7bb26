use Rattle.exported_collect.specs.Ready.{free_left, running_left, short_left, collected_left}
use Rattle.exported_collect.proofs.collect_slot.Goals as goal

pub returns-then-out-size : goal.returns-then-out-size
returns-then-out-size c store =
    short_left c.requires c.slot_at-slot.ensures store _
    c.in-Finished.is _ c.answer_size-size.ensures c.if-out-size.true

pub returns-in-Free : goal.returns-in-Free
returns-in-Free c store = free_left c.requires c.slot_at-slot.ensures store _ c.in-Free.is

pub returns-in-Running : goal.returns-in-Running
returns-in-Running c store = running_left c.requires c.slot_at-slot.ensures store _ c.in-Running.is

pub returns-else-out-size : goal.returns-else-out-size
returns-else-out-size c store =
    collected_left c.requires c.slot_at-slot.ensures store _
    c.in-Finished.is _ c.answer_size-size.ensures c.if-out-size.false
    _ c.write_answer.ensures _ c.free-freed.ensures
    _ c.write_slot.ensures _ c.narrow.ensures.0
