use Rattle.script_device.specs.Slots.{placed_as}
use Rattle.words.proofs.Choice.{cases}
use Rattle.script_device.proofs.placed.Goals as goal

pub returns-then-same : goal.returns-then-same
unfolding placed_as
returns-then-same c = search cases depth 8

pub returns-then-same-2 : goal.returns-then-same-2
unfolding placed_as
returns-then-same-2 c = search cases depth 8

pub returns : goal.returns
unfolding placed_as
returns c = search cases depth 8
