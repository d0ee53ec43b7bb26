use Rattle.hcr.proofs.Fields.{masked}
use Rattle.hcr_reader.proofs.event_of.Goals as goal

pub returns : goal.returns
returns c = masked 22 22 _
