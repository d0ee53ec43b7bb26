use Rattle.exported_command.specs.Decided.{opened_fits, can_apply}
use Rattle.exported_command.proofs.submit_tested.Goals as goal

pub decide_register-decision-requires : goal.decide_register-decision-requires
decide_register-decision-requires c = opened_fits _ _ _ c.requires.0 _ c.read_hca-hca.ensures

pub apply-requires : goal.apply-requires
apply-requires c =
    can_apply _ _ _ c.requires.0 _ c.read_hca-hca.ensures _ _ _ _ _
    c.read_row.ensures c.read.ensures.0 c.decide_register-decision.ensures c.requires.1
