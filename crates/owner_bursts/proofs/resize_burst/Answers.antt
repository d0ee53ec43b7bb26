use Rattle.owner_bursts.specs.Owners.{resize_put, resize_copied, resize_left}
use borrow.Author.Rules.{rules}
use Rattle.owner_bursts.proofs.resize_burst.Goals as goal

pub returns-then-first-eq0 : goal.returns-then-first-eq0
returns-then-first-eq0 c = search (rules, resize_put)

pub returns-then-first-eq16 : goal.returns-then-first-eq16
returns-then-first-eq16 c = search (rules, resize_copied)

pub returns-else-first-eq16 : goal.returns-else-first-eq16
returns-else-first-eq16 c = search (rules, resize_left)
