use Rattle.slot_readers.specs.Reading.{held_as_lem}
use Rattle.slot_readers.proofs.status_held.Goals as goal

pub returns-in-Some : goal.returns-in-Some
returns-in-Some c = rw c.in-Some.is (held_as_lem _ _ _ _ c.held.ensures)
