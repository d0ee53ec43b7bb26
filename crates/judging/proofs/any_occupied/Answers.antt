use Rattle.judging.specs.Device.{occupied_none, occupied_more, occupied_found}
use borrow.Author.Rules.{rules}
use Rattle.judging.proofs.any_occupied.Goals as goal

pub loop-k-init : goal.loop-k-init
loop-k-init c = (search rules, occupied_none _)

pub returns-then-dev-k-ne0 : goal.returns-then-dev-k-ne0
returns-then-dev-k-ne0 c = occupied_found _ _ c.loop-k-test.true c.if-dev-k-ne0.true

pub loop-k-preserved : goal.loop-k-preserved
loop-k-preserved c = (search rules, occupied_more _ _ c.loop-k.invariant.1 c.if-dev-k-ne0.false)
