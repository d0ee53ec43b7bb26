use Rattle.device_reset.specs.Resets.{reset_short, reset_done_lem}
use borrow.Author.Rules.{rules}
use Rattle.device_reset.proofs.reset.Goals as goal

pub returns-then-room-lt-ROOM : goal.returns-then-room-lt-ROOM
returns-then-room-lt-ROOM c = search (rules, reset_short)

pub returns : goal.returns
returns c = search (rules, reset_done_lem)
