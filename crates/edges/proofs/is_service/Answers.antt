use Rattle.edges.specs.States.{is_service}
use Rattle.words.proofs.Choice.{cases}
use borrow.Author.Tests.{not-true, not-false}
use Rattle.edges.proofs.is_service.Goals as goal

pub returns-then-service-eq0 : goal.returns-then-service-eq0
unfolding is_service
returns-then-service-eq0 c = search (cases, not-true, not-false) depth 8

pub returns-then-service-eq1 : goal.returns-then-service-eq1
unfolding is_service
returns-then-service-eq1 c = search (cases, not-true, not-false) depth 8

pub returns : goal.returns
unfolding is_service
returns c = search (cases, not-true, not-false) depth 8
