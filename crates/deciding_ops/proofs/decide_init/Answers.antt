use Rattle.rules.specs.Commands.{decide_init}
use borrow.Author.Rules.{rules}
use Rattle.deciding_ops.proofs.decide_init.Goals as goal

pub returns-in_err-found : goal.returns-in_err-found
unfolding decide_init
returns-in_err-found c = rw c.in_err-found.was (search rules)

pub returns : goal.returns
unfolding decide_init
returns c = rw c.in_ok-found.was
