use Rattle.records.specs.Calls.{zero_leaves}
use borrow.Author.Rules.{rules}
use Rattle.records.proofs.zero.Goals as goal

pub returns : goal.returns
returns c = search (rules, zero_leaves)
