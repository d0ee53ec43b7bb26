use Rattle.slot_readers.specs.Reading.{slot_made}
use Rattle.slot_readers.proofs.slot_at.Goals as goal

pub returns : goal.returns
returns c = slot_made _ _ _ c.read_status.ensures
