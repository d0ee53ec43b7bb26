use Rattle.holds.proofs.Clashes.{held_told}
use Rattle.hold_scans.proofs.held.Goals as goal

pub returns : goal.returns
returns c = held_told _ _ _ _ _ c.writes.ensures c.records_of.ensures c.held_from.ensures
