use Rattle.hcr.proofs.Fields.{masked}
use Rattle.hcr_checks.proofs.go_of.Goals as goal

pub returns : goal.returns
returns c = masked 23 23 _
