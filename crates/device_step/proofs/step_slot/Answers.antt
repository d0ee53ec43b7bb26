use Rattle.device_step.specs.Steps.{none_runs}
use Rattle.moving.specs.Steps.{moving, step_made}
use borrow.Author.Rules.{rules}
use Rattle.device_step.proofs.step_slot.Goals as goal

pub returns-in_default : goal.returns-in_default
returns-in_default c = search (rules, none_runs)

pub move_burst-requires : goal.move_burst-requires
move_burst-requires c = moving c.requires c.in-Running.is

pub returns : goal.returns
returns c = search (rules, step_made)
