use Rattle.register_calls.specs.Calls.{command_in}
use Rattle.register_calls.proofs.command_in.Goals as goal

pub returns : goal.returns
unfolding command_in
returns c = cc
