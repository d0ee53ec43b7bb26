use Rattle.edge_bursts.specs.Edges.{state_left, state_put}
use borrow.Author.Rules.{rules}
use Rattle.edge_bursts.proofs.set_state.Goals as goal

pub returns-then-first-gt0 : goal.returns-then-first-gt0
returns-then-first-gt0 c = search (rules, state_left)

pub returns : goal.returns
returns c = search (rules, state_put)
