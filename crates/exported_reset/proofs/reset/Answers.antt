use Rattle.exported_reset.specs.Resets.{reset_device_lem, reset_room, reset_done_lem}
use borrow.Author.Rules.{rules}
use Rattle.exported_reset.proofs.reset.Goals as goal

pub returns-then-dev-ne288 : goal.returns-then-dev-ne288
returns-then-dev-ne288 c = search (rules, reset_device_lem)

pub returns-then-room-lt-ROOM : goal.returns-then-room-lt-ROOM
returns-then-room-lt-ROOM c = search (rules, reset_room)

pub returns : goal.returns
returns c = search (rules, reset_done_lem)
