use Rattle.device_calls.proofs.Tests.{tested}
use Rattle.exported_command.specs.Decided.{left_short, left_refused, left_submitted}
use Rattle.exported_command.proofs.submit_command.Goals as goal

pub returns-then-bytes-lt28 : goal.returns-then-bytes-lt28
returns-then-bytes-lt28 c = left_short _ _ _ _ _ c.if-bytes-lt28.true

pub returns-then-refused-ne0 : goal.returns-then-refused-ne0
returns-then-refused-ne0 c = left_refused _ _ _ _ _ c.if-bytes-lt28.false _ c.refusal-refused.ensures c.if-refused-ne0.true

pub submit_tested-requires : goal.submit_tested-requires
submit_tested-requires c = (tested _ _ _ _ c.refusal-refused.ensures c.if-refused-ne0.false, c.if-bytes-lt28.false)

pub returns : goal.returns
returns c =
    left_submitted _ _ _ _ _ c.if-bytes-lt28.false _ c.refusal-refused.ensures c.if-refused-ne0.false _
    c.submit_tested.ensures
