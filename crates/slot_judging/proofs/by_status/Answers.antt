use Rattle.slot_judging.specs.Judging.{judged_by}
use Rattle.words.proofs.Choice.{cases}
use Rattle.slot_judging.proofs.by_status.Goals as goal

pub returns : goal.returns
unfolding judged_by
returns c = search cases
