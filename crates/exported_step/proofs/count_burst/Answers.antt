use Rattle.exported_step.specs.Whole.{counted}
use Rattle.exported_step.proofs.count_burst.Goals as goal

pub returns : goal.returns
unfolding counted
returns c = (rw c.from.ensures, rw c.status_with.ensures)
