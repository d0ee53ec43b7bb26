use Rattle.edges.specs.Edges.{permits_some}
use Rattle.words.proofs.Choice.{cases}
use Rattle.edges.proofs.permitted_for_some.Goals as goal

pub returns-then-permitted : goal.returns-then-permitted
unfolding permits_some
returns-then-permitted c = search cases depth 8

pub returns-then-permitted-2 : goal.returns-then-permitted-2
unfolding permits_some
returns-then-permitted-2 c = search cases depth 8

pub returns : goal.returns
unfolding permits_some
returns c = search cases depth 8
