use Rattle.engines.specs.Engines.{read_number}
use Rattle.engines.proofs.Reading.{number_answer}
use Rattle.words.proofs.Choice.{cases}
use Rattle.engines.proofs.read_number.Goals as goal

pub returns-in-1 : goal.returns-in-1
unfolding read_number
returns-in-1 c = number_answer _ _ (rw c.in-1.is)

pub returns-in-2 : goal.returns-in-2
unfolding read_number
returns-in-2 c = number_answer _ _ (rw c.in-2.is)

pub returns-in-3 : goal.returns-in-3
unfolding read_number
returns-in-3 c = number_answer _ _ (rw c.in-3.is)

pub returns-in-4 : goal.returns-in-4
unfolding read_number
returns-in-4 c = number_answer _ _ (rw c.in-4.is)

pub returns-in-5 : goal.returns-in-5
unfolding read_number
returns-in-5 c = number_answer _ _ (rw c.in-5.is)

pub returns-in-6 : goal.returns-in-6
unfolding read_number
returns-in-6 c = number_answer _ _ (rw c.in-6.is)

pub returns-in-7 : goal.returns-in-7
unfolding read_number
returns-in-7 c = number_answer _ _ (rw c.in-7.is)

pub returns-in_default : goal.returns-in_default
unfolding read_number
returns-in_default c = number_answer _ _ (search cases depth 20)
