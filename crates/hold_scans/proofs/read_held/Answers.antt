use Rattle.holds.specs.Holds.{read_held}
use Rattle.hold_scans.proofs.read_held.Goals as goal

pub returns : goal.returns
unfolding read_held
returns c = c.held_from.ensures
