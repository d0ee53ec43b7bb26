use Rattle.slot_judging.specs.Judging.{judged_by}
use Rattle.words.proofs.Choice.{cases}
use Rattle.slot_judging.proofs.finished.Goals as goal

pub returns-then-moved-total : goal.returns-then-moved-total
unfolding judged_by
returns-then-moved-total c = search cases

pub returns : goal.returns
unfolding judged_by
returns c = search (cases, c.nothing-none.ensures)
