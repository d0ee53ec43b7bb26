use Rattle.owner_bursts.specs.Maps.{filled}
use borrow.Author.Rules.{rules}
use Rattle.owner_bursts.proofs.zero_burst.Goals as goal

pub returns : goal.returns
returns c = search (rules, filled)
