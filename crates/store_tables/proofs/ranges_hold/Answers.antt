use Rattle.context.specs.Layout.{ranges_hold}
use Rattle.words.proofs.Choice.{cases}
use Rattle.store_tables.proofs.ranges_hold.Goals as goal

pub returns-then-logs-gt14 : goal.returns-then-logs-gt14
unfolding ranges_hold
returns-then-logs-gt14 c = search cases depth 8

pub returns-then-logs-gt14-2 : goal.returns-then-logs-gt14-2
unfolding ranges_hold
returns-then-logs-gt14-2 c = search cases depth 8

pub returns-then-logs-gt5 : goal.returns-then-logs-gt5
unfolding ranges_hold
returns-then-logs-gt5 c = search cases depth 8

pub returns : goal.returns
unfolding ranges_hold
returns c = search cases depth 8
