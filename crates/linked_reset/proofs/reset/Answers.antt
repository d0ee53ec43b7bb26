use Rattle.chains.specs.Links.{reset_link}
use Rattle.linked_reset.proofs.reset.Goals as goal

pub returns : goal.returns
returns c = reset_link _ _ _ _ _ c.reset.ensures
