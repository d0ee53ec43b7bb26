use Rattle.possible.specs.Possible.{impossible}
use Rattle.words.proofs.Choice.{cases}
use borrow.Author.Tests.{not-true, not-false}
use Rattle.state_checks.proofs.is_impossible.Goals as goal

pub returns-then-not-hca : goal.returns-then-not-hca
unfolding impossible
returns-then-not-hca c = search (cases, not-true) depth 8

pub returns : goal.returns
unfolding impossible
returns c = search (cases, not-false) depth 8
