use Rattle.bursts.proofs.Leaves.{copied_lent}
use borrow.Author.Rules.{rules}
use Rattle.bursts.proofs.read_at.Goals as goal

pub returns : goal.returns
returns c = search (rules, copied_lent)
