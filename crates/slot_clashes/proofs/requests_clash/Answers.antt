use Rattle.std.proofs.Common.{sym, ◌∙◌}
use Rattle.holds.proofs.Clashes.{records_more, records_found, records_none, clash_told}
use borrow.Author.Rules.{rules}
use Rattle.slot_clashes.proofs.requests_clash.Goals as goal

pub returns-then-clashes_at : goal.returns-then-clashes_at
returns-then-clashes_at c =
    clash_told _ c.args.request _ _ _
    c.writes-writes.ensures c.records_of-records.ensures
    (sym (records_found _ _ _ _ _ c.count-count.ensures c.loop-j-test.true
    (sym c.clashes_at.ensures ∙ c.if-clashes_at.true) c.loop-j.invariant.1))

pub loop-j-preserved : goal.loop-j-preserved
loop-j-preserved c = (
  search rules,
  records_more _ _ _ _ _ _ c.count-count.ensures c.loop-j-test.true
      (sym c.clashes_at.ensures ∙ c.if-clashes_at.false) c.loop-j.invariant.1,
)

pub returns : goal.returns
returns c =
    clash_told _ c.args.request _ _ _
    c.writes-writes.ensures c.records_of-records.ensures
    (sym (records_none _ _ _ c.loop-j.j _ c.count-count.ensures (search rules) c.loop-j.invariant.1))
