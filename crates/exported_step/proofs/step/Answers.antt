use Rattle.std.proofs.Common.{arith}
use Rattle.device_calls.proofs.Tests.{passed_sized}
use Rattle.exported_step.specs.Ready.{ready, left_refused, left_past, left_stepped}
use Rattle.exported_step.proofs.step.Goals as goal

pub returns-then-refused-ne0 : goal.returns-then-refused-ne0
returns-then-refused-ne0 c = left_refused _ _ _ _ _ c.refusal-refused.ensures c.if-refused-ne0.true

pub returns-then-k-gt7 : goal.returns-then-k-gt7
returns-then-k-gt7 c = left_past _ _ _ _ _ c.refusal-refused.ensures c.if-refused-ne0.false c.if-k-gt7.true

pub read_hca-requires : goal.read_hca-requires
read_hca-requires c = passed_sized _ _ _ _ c.refusal-refused.ensures c.if-refused-ne0.false

pub step_bytes-requires : goal.step_bytes-requires
step_bytes-requires c =
    ready _ _ _ _ _ _ c.refusal-refused.ensures c.if-refused-ne0.false c.read_hca.ensures
    (omega (arith, c.if-k-gt7.false))

pub returns : goal.returns
returns c = left_stepped _ _ _ _ _ c.refusal-refused.ensures c.if-refused-ne0.false _ _ _ _ c.step_bytes.ensures
