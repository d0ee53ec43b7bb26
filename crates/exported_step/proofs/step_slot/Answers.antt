use borrow.Author.Rules.{rules}
use Rattle.exported_step.specs.Ready.{can_move, none_left, moved_left}
use Rattle.exported_step.proofs.step_slot.Goals as goal

pub returns-in_default : goal.returns-in_default
returns-in_default c = search (rules, none_left)

pub move_burst-requires : goal.move_burst-requires
move_burst-requires c = can_move c.requires c.slot_at-slot.ensures c.in-Running.is

pub returns : goal.returns
returns c =
    moved_left c.requires c.slot_at-slot.ensures _ _ _ _ _
    c.in-Running.is c.move_burst.ensures
    c.advance-next.ensures c.write_moved.ensures c.from.ensures
