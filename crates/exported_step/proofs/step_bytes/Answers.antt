use Rattle.exported_step.specs.Whole.{all_reading, query_reading, joined_reading}
use Rattle.exported_step.proofs.step_bytes.Goals as goal

pub step_qp-requires : goal.step_qp-requires
step_qp-requires c = all_reading c.requires c.read_le32.ensures c.read_le32.type_inv c.runs.ensures c.if-runs.true

pub step_qp-requires-then-runs-2 : goal.step_qp-requires-then-runs-2
step_qp-requires-then-runs-2 c = query_reading c.requires c.read_le32.ensures c.read_le32.type_inv c.runs-2.ensures c.if-runs-2.true

pub step_joined-requires : goal.step_joined-requires
step_joined-requires c =
    joined_reading c.requires c.read_le32.ensures c.read_le32.type_inv c.read_le32-then-runs-3.ensures c.read_le32-then-runs-3-2.ensures
    c.runs-3.ensures c.if-runs-3.true
