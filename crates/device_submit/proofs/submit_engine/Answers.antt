use Rattle.device_submit.specs.Submitting.{engine_promises, engine_submitted}
use borrow.Author.Rules.{rules}
use Rattle.device_submit.proofs.submit_engine.Goals as goal

pub apply-requires : goal.apply-requires
apply-requires c = search (rules, engine_promises)

pub returns : goal.returns
returns c = search (rules, engine_submitted)
