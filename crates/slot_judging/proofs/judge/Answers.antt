use Rattle.std.proofs.Common.{refl, ◌∙◌, arith}
use Rattle.slot_judging.specs.Requests.{command_told, engine_told, neither_told}
use Rattle.slot_judging.proofs.judge.Goals as goal

pub returns-then-kind-eq0 : goal.returns-then-kind-eq0
returns-then-kind-eq0 c =
    command_told _ _ _ _ _ (c.from_le_bytes-op.ensures ∙ omega arith)
    c.read_le32-index.ensures _ c.if-kind-eq0.true
    c.read_op.ensures.0 c.command.ensures

pub returns-then-kind-eq1 : goal.returns-then-kind-eq1
returns-then-kind-eq1 c =
    engine_told _ _ _ _ _ (c.from_le_bytes-op.ensures ∙ omega arith)
    c.read_le32-index.ensures _ _ c.if-kind-eq1.true
    c.from.ensures c.read_number.ensures.0 c.engine.ensures

pub returns : goal.returns
returns c = neither_told _ _ _ c.if-kind-eq0.false c.if-kind-eq1.false refl
