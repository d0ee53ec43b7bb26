use Rattle.edge_bursts.specs.Edges.{edge_zeroed, edge_made}
use borrow.Author.Rules.{rules}
use Rattle.edge_bursts.proofs.edge_burst.Goals as goal

pub returns-then-zeroes_record : goal.returns-then-zeroes_record
returns-then-zeroes_record c = search (rules, edge_zeroed)

pub returns : goal.returns
returns c = search (rules, edge_made)
