-- Each field is what its call ensures.
use Rattle.hcr.specs.Register.{command_of}
use Rattle.hcr_reader.proofs.command_of.Goals as goal

pub returns : goal.returns
unfolding command_of
returns c = cc
