use Rattle.hcr.proofs.Fields.{masked}
use Rattle.hcr_checks.proofs.status_of.Goals as goal

pub returns : goal.returns
returns c = masked 31 24 _
