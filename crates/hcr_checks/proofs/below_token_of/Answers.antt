use Rattle.hcr.proofs.Fields.{masked_low}
use Rattle.hcr_checks.proofs.below_token_of.Goals as goal

pub returns : goal.returns
returns c = masked_low 15 _
