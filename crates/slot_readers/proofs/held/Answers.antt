use Rattle.slot_readers.specs.Reading.{held_as}
use Rattle.words.proofs.Choice.{cases}
use Rattle.slot_readers.proofs.held.Goals as goal

pub returns-then-code-eq1 : goal.returns-then-code-eq1
unfolding held_as
returns-then-code-eq1 c = search cases

pub returns-then-code-eq2 : goal.returns-then-code-eq2
unfolding held_as
returns-then-code-eq2 c = search cases

pub returns : goal.returns
unfolding held_as
returns c = search cases depth 8
