use Rattle.hcr.proofs.Fields.{masked}
use Rattle.hcr_reader.proofs.op_modifier_of.Goals as goal

pub returns : goal.returns
returns c = masked 19 12 _
