use Rattle.std.proofs.Common.{refl, ◌∙◌, ap}
use Rattle.rules.specs.Commands.{decide_op, decide_register}
use Rattle.words.proofs.Choice.{pick_yes, pick_no}
use borrow.Author.Rules.{rules}
use Rattle.deciding_commands.proofs.decide_register.Goals as goal

pub returns-in_err-command : goal.returns-in_err-command
unfolding decide_register
returns-in_err-command c room = rw c.in_err-command.was (search rules)

pub returns-then-command : goal.returns-then-command
unfolding decide_register
returns-then-command c room = rw c.in_ok-command.was (pick_yes _ _ _ _ c.if-command.true refl)

pub returns : goal.returns
unfolding decide_register
returns c room =
    rw c.in_ok-command.was
    (pick_no _ _ _ _ c.if-command.false
    (c.decide_op.ensures room ∙ ap (decide_op _ _ _) c.read_op.ensures.0))
