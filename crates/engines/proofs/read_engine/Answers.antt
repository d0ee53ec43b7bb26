use Rattle.engines.specs.Engines.{read_engine}
use Rattle.engines.proofs.Reading.{engine_answer_lem}
use Rattle.engines.proofs.read_engine.Goals as goal

pub returns-in_err-n : goal.returns-in_err-n
unfolding read_engine
returns-in_err-n c = engine_answer_lem _ _ _ _ _ _ (rw (← c.qp_number.ensures.0, c.in_err-n.was) c.from_residual.ensures)

pub returns : goal.returns
unfolding read_engine
returns c = engine_answer_lem _ _ _ _ _ _ (rw (← c.qp_number.ensures.0, c.in_ok-n.was) c.engine_on.ensures)
