use Rattle.slot_judging.specs.Judging.{record_judged}
use Rattle.slot_judging.specs.Requests.{one_told}
use Rattle.words.proofs.Choice.{cases}
use borrow.Author.Tests.{not-true, not-false}
use Rattle.slot_judging.proofs.on_record.Goals as goal

pub returns-then-modifier-wanted : goal.returns-then-modifier-wanted
unfolding record_judged
returns-then-modifier-wanted c = search cases

pub returns-then-not-below_count : goal.returns-then-not-below_count
unfolding record_judged
returns-then-not-below_count c = search (cases, not-true)

pub returns : goal.returns
unfolding record_judged
returns c =
    let e = one_told _ _ _ _ _ _ _ c.args.writes _ _
    c.coded.ensures c.one.ensures c.by_status.ensures in search (cases, not-false)
