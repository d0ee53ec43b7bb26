use Rattle.std.proofs.Common.{refl}
use Rattle.checks.specs.Fields.{is_hardware}
use Rattle.checks.proofs.is_hardware.Goals as goal

pub returns : goal.returns
unfolding is_hardware
returns c = refl
