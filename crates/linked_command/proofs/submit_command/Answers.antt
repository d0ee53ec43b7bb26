use Rattle.chains.specs.Links.{command_link}
use Rattle.linked_command.proofs.submit_command.Goals as goal

pub returns : goal.returns
returns c = command_link _ _ _ _ _ _ _ _ _ c.submit_command.ensures
