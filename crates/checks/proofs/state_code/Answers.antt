use Rattle.std.proofs.Common.{refl}
use Rattle.checks.specs.Fields.{state_of}
use Rattle.checks.proofs.state_code.Goals as goal

pub returns : goal.returns
unfolding state_of
returns c = refl
