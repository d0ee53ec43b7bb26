use Rattle.hcr.proofs.Fields.{masked}
use Rattle.hcr_checks.proofs.reserved_of.Goals as goal

pub returns : goal.returns
returns c = masked 21 20 _
