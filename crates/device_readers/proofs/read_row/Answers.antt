use Rattle.device_bytes.proofs.Walks.{none_slots, more_slots, skip_slots}
use Rattle.device_readers.specs.Reading.{row_broken, row_read}
use borrow.Author.Rules.{rules}
use Rattle.device_readers.proofs.read_row.Goals as goal

pub returns-then-dev-gt1 : goal.returns-then-dev-gt1
returns-then-dev-gt1 c = search (rules, row_broken)

pub loop-k-init : goal.loop-k-init
loop-k-init c = search (rules, none_slots)

pub loop-k-preserved-then-dev-k-eq0 : goal.loop-k-preserved-then-dev-k-eq0
loop-k-preserved-then-dev-k-eq0 c = search (rules, skip_slots)

pub loop-k-preserved : goal.loop-k-preserved
loop-k-preserved c = search (rules, more_slots)

pub returns : goal.returns
returns c = search (rules, row_read)
