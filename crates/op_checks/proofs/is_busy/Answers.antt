use Rattle.rules.specs.Commands.{busy}
use Rattle.words.proofs.Choice.{cases}
use borrow.Author.Tests.{not-true, not-false}
use Rattle.op_checks.proofs.is_busy.Goals as goal

pub returns-then-command_uncollected : goal.returns-then-command_uncollected
unfolding busy
returns-then-command_uncollected c = search (cases, not-true, not-false) depth 8

pub returns-then-not-is_close : goal.returns-then-not-is_close
unfolding busy
returns-then-not-is_close c = search (cases, not-true, not-false) depth 8

pub returns : goal.returns
unfolding busy
returns c = search (cases, not-true, not-false) depth 8
