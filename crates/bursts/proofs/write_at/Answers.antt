use Rattle.bursts.proofs.Leaves.{written_lent}
use Rattle.bursts.specs.Moves.{written_part}
use borrow.Author.Rules.{rules}
use Rattle.bursts.proofs.write_at.Goals as goal

pub returns : goal.returns
unfolding written_part
returns c = search (rules, written_lent)
