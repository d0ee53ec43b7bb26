use Rattle.exported_step.specs.Whole.{runs}
use Rattle.words.proofs.Choice.{cases}
use Rattle.exported_step.proofs.runs.Goals as goal

pub returns-then-dev-at-ne1 : goal.returns-then-dev-at-ne1
unfolding runs
returns-then-dev-at-ne1 c = search cases depth 12

pub returns-then-dev-at : goal.returns-then-dev-at
unfolding runs
returns-then-dev-at c = search cases depth 12

pub returns-then-dev-at-ne0 : goal.returns-then-dev-at-ne0
unfolding runs
returns-then-dev-at-ne0 c = search cases depth 12

pub returns-then-dev-at-2 : goal.returns-then-dev-at-2
unfolding runs
returns-then-dev-at-2 c = search cases depth 12

pub returns : goal.returns
unfolding runs
returns c = search cases depth 12
