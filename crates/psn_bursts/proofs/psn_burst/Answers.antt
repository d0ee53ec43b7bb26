use Rattle.psn_bursts.specs.Engines.{psn_left, psn_put}
use borrow.Author.Rules.{rules}
use Rattle.psn_bursts.proofs.psn_burst.Goals as goal

pub returns-then-word-first : goal.returns-then-word-first
returns-then-word-first c = search (rules, psn_left)

pub returns : goal.returns
returns c = search (rules, psn_put)
