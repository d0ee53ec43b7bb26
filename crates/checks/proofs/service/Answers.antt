use Rattle.std.proofs.Common.{refl}
use Rattle.checks.specs.Fields.{service_of}
use Rattle.checks.proofs.service.Goals as goal

pub returns : goal.returns
unfolding service_of
returns c = refl
