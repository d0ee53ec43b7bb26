use Rattle.commands.specs.Commands.{read_op}
use Rattle.commands.proofs.Reading.{op_answer}
use Rattle.words.proofs.Choice.{cases}
use Rattle.commands.proofs.read_op.Goals as goal

pub returns-in-7 : goal.returns-in-7
unfolding read_op
returns-in-7 c = op_answer _ _ (rw c.in-7.is)

pub returns-in-8 : goal.returns-in-8
unfolding read_op
returns-in-8 c = op_answer _ _ (rw c.in-8.is)

pub returns-in-49 : goal.returns-in-49
unfolding read_op
returns-in-49 c = op_answer _ _ (rw c.in-49.is)

pub returns-in-13 : goal.returns-in-13
unfolding read_op
returns-in-13 c = op_answer _ _ (rw c.in-13.is)

pub returns-in-19 : goal.returns-in-19
unfolding read_op
returns-in-19 c = op_answer _ _ (rw c.in-19.is)

pub returns-in-22 : goal.returns-in-22
unfolding read_op
returns-in-22 c = op_answer _ _ (rw c.in-22.is)

pub returns-in-15 : goal.returns-in-15
unfolding read_op
returns-in-15 c = op_answer _ _ (rw c.in-15.is)

pub returns-in-20 : goal.returns-in-20
unfolding read_op
returns-in-20 c = op_answer _ _ (rw c.in-20.is)

pub returns-in-23 : goal.returns-in-23
unfolding read_op
returns-in-23 c = op_answer _ _ (rw c.in-23.is)

pub returns-in-44 : goal.returns-in-44
unfolding read_op
returns-in-44 c = op_answer _ _ (rw c.in-44.is)

pub returns-in-34 : goal.returns-in-34
unfolding read_op
returns-in-34 c = op_answer _ _ (rw c.in-34.is)

pub returns-in-25 : goal.returns-in-25
unfolding read_op
returns-in-25 c = op_answer _ _ (rw c.in-25.is)

pub returns-in-45 : goal.returns-in-45
unfolding read_op
returns-in-45 c = op_answer _ _ (rw c.in-45.is)

pub returns-in-26 : goal.returns-in-26
unfolding read_op
returns-in-26 c = op_answer _ _ (rw c.in-26.is)

pub returns-in-27 : goal.returns-in-27
unfolding read_op
returns-in-27 c = op_answer _ _ (rw c.in-27.is)

pub returns-in-28 : goal.returns-in-28
unfolding read_op
returns-in-28 c = op_answer _ _ (rw c.in-28.is)

pub returns-in-29 : goal.returns-in-29
unfolding read_op
returns-in-29 c = op_answer _ _ (rw c.in-29.is)

pub returns-in-31 : goal.returns-in-31
unfolding read_op
returns-in-31 c = op_answer _ _ (rw c.in-31.is)

pub returns-in-56 : goal.returns-in-56
unfolding read_op
returns-in-56 c = op_answer _ _ (rw c.in-56.is)

pub returns-in-32 : goal.returns-in-32
unfolding read_op
returns-in-32 c = op_answer _ _ (rw c.in-32.is)

pub returns-in-30 : goal.returns-in-30
unfolding read_op
returns-in-30 c = op_answer _ _ (rw c.in-30.is)

pub returns-in-33 : goal.returns-in-33
unfolding read_op
returns-in-33 c = op_answer _ _ (rw c.in-33.is)

pub returns-in_default : goal.returns-in_default
unfolding read_op
returns-in_default c = op_answer _ _ (search cases depth 40)
