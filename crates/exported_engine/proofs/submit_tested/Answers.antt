use Rattle.exported_engine.specs.Decided.{number_ready, can_apply}
use Rattle.exported_engine.proofs.submit_tested.Goals as goal

pub decide-decision-requires : goal.decide-decision-requires
decide-decision-requires c = number_ready _ _ _ c.requires _ c.read_hca-hca.ensures

pub apply-requires : goal.apply-requires
apply-requires c =
    can_apply _ _ _ c.requires _ c.read_hca-hca.ensures _ _ _ _ _ _
    c.read_number.ensures.0 c.decide-decision.ensures
