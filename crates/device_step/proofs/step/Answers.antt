use Rattle.device_step.specs.Steps.{step_refused_lem, looked_up}
use Rattle.lengths.proofs.Lengths.{lent_told}
use Rattle.moving.specs.Steps.{step_goes}
use Rattle.rules.specs.Steps.{step_of}
use Rattle.rules.specs.World.{bad_state}
use Rattle.words.proofs.Choice.{cases}
use borrow.Author.Rules.{rules}
use Rattle.device_step.proofs.step.Goals as goal

pub returns-then-lengths_wrong : goal.returns-then-lengths_wrong
unfolding step_of bad_state
returns-then-lengths_wrong c = search (step_refused_lem, cases, lent_told) depth 10

pub returns-then-is_impossible : goal.returns-then-is_impossible
unfolding step_of bad_state
returns-then-is_impossible c = search (step_refused_lem, cases, lent_told) depth 10

pub step_slot-requires : goal.step_slot-requires
step_slot-requires c = search (rules, looked_up)

pub returns : goal.returns
returns c = search (rules, step_goes, looked_up)
