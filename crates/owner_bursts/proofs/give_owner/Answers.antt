use Rattle.owner_bursts.specs.Owners.{owner_put, owner_apart}
use borrow.Author.Rules.{rules}
use Rattle.owner_bursts.proofs.give_owner.Goals as goal

pub returns-then-first-eq48 : goal.returns-then-first-eq48
returns-then-first-eq48 c = search (rules, owner_put)

pub returns-else-first-eq48 : goal.returns-else-first-eq48
returns-else-first-eq48 c = search (rules, owner_apart)
