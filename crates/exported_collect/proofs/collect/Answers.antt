use Rattle.std.proofs.Common.{arith}
use Rattle.exported_collect.specs.Ready.{ready, left_refused, left_past, left_collected}
use Rattle.exported_collect.proofs.collect.Goals as goal

pub returns-then-refused-ne0 : goal.returns-then-refused-ne0
returns-then-refused-ne0 c = left_refused _ _ _ _ _ _ c.refusal-refused.ensures c.if-refused-ne0.true

pub returns-then-k-gt7 : goal.returns-then-k-gt7
returns-then-k-gt7 c = left_past _ _ _ _ _ _ c.refusal-refused.ensures c.if-refused-ne0.false c.if-k-gt7.true

pub collect_slot-requires : goal.collect_slot-requires
collect_slot-requires c =
    ready _ _ _ _ _ c.refusal-refused.ensures c.if-refused-ne0.false
    (omega (arith, c.if-k-gt7.false))

pub returns : goal.returns
returns c = left_collected _ _ _ _ _ _ c.refusal-refused.ensures c.if-refused-ne0.false _ _ _ c.collect_slot.ensures
