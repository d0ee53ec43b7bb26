use Rattle.device_calls.proofs.Tests.{tested}
use Rattle.exported_engine.specs.Decided.{left_refused, left_submitted}
use Rattle.exported_engine.proofs.submit_engine.Goals as goal

pub returns-then-refused-ne0 : goal.returns-then-refused-ne0
returns-then-refused-ne0 c = left_refused _ _ _ _ _ _ _ _ c.refusal-refused.ensures c.if-refused-ne0.true

pub submit_tested-requires : goal.submit_tested-requires
submit_tested-requires c = tested _ _ _ _ c.refusal-refused.ensures c.if-refused-ne0.false

pub returns : goal.returns
returns c =
    left_submitted _ _ _ _ _ _ _ _ c.refusal-refused.ensures c.if-refused-ne0.false _
    c.submit_tested.ensures
