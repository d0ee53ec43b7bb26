use Rattle.edges.specs.Edges.{judge_of}
use Rattle.words.proofs.Choice.{cases}
use borrow.Author.Tests.{not-true, not-false}
use Rattle.edges.proofs.judge.Goals as goal

pub returns-then-permitted : goal.returns-then-permitted
unfolding judge_of
returns-then-permitted c = (search (cases, not-true, not-false) depth 8, search (cases, not-true, not-false) depth 8)

pub returns-then-for_some_type : goal.returns-then-for_some_type
unfolding judge_of
returns-then-for_some_type c = (search (cases, not-true, not-false) depth 8, search (cases, not-true, not-false) depth 8)

pub returns : goal.returns
unfolding judge_of
returns c = (search (cases, not-true, not-false) depth 8, search (cases, not-true, not-false) depth 8)
