use Rattle.hcr.proofs.Fields.{masked_low}
use Rattle.hcr_reader.proofs.op_of.Goals as goal

pub returns : goal.returns
returns c = masked_low 11 _
