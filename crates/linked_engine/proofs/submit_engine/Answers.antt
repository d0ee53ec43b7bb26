use Rattle.chains.specs.Links.{engine_link}
use Rattle.linked_engine.proofs.submit_engine.Goals as goal

pub returns : goal.returns
returns c = engine_link _ _ _ _ _ _ _ _ _ _ _ c.submit_engine.ensures
