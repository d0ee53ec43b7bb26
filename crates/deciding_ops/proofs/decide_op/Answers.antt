use Rattle.std.proofs.Common.{refl, ◌∙◌, ap}
use Rattle.deciding_ops.specs.Ready.{command_stored}
use Rattle.rules.specs.Commands.{decide_found, decide_op}
use Rattle.words.proofs.Choice.{pick_yes, pick_no, told}
use borrow.Author.Rules.{rules}
use Rattle.deciding_ops.proofs.decide_op.Goals as goal

pub returns-then-bad_system : goal.returns-then-bad_system
unfolding decide_op
returns-then-bad_system c room = rw c.in-Some.is (pick_yes _ _ _ _ (told _ _ _ c.bad_system.ensures c.if-bad_system.true) refl)

pub returns-then-is_busy : goal.returns-then-is_busy
unfolding decide_op
returns-then-is_busy c room =
    rw c.in-Some.is
    (pick_no _ _ _ _ (told _ _ _ c.bad_system.ensures c.if-bad_system.false)
    (pick_yes _ _ _ _ (told _ _ _ c.is_busy.ensures c.if-is_busy.true) refl))

pub decide_found-requires : goal.decide_found-requires
decide_found-requires c = search (rules, command_stored)

pub returns : goal.returns
unfolding decide_op
returns c room =
    rw c.in-Some.is
    (pick_no _ _ _ _ (told _ _ _ c.bad_system.ensures c.if-bad_system.false)
    (pick_no _ _ _ _ (told _ _ _ c.is_busy.ensures c.if-is_busy.false)
    (c.decide_found.ensures room ∙ ap (decide_found _ _) c.read_command-asked.ensures.0)))

pub returns-in_default : goal.returns-in_default
unfolding decide_op
returns-in_default c room = rw c.in_default.is
