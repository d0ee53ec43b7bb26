use Rattle.hcr.proofs.Fields.{masked}
use Rattle.hcr_reader.proofs.token_of.Goals as goal

pub returns : goal.returns
returns c = masked 31 16 _
