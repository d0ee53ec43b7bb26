use Rattle.psn_bursts.specs.Engines.{write_made}
use borrow.Author.Rules.{rules}
use Rattle.psn_bursts.proofs.state_and_psn_burst.Goals as goal

pub returns : goal.returns
returns c = search (rules, write_made)
