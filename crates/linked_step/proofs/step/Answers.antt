use Rattle.chains.specs.Links.{step_link}
use Rattle.linked_step.proofs.step.Goals as goal

pub returns : goal.returns
returns c = step_link _ _ _ _ _ _ _ _ c.step.ensures
