use borrow.Author.Rules.{rules}
use Rattle.words.proofs.Leaves.{lent_fill}
use Rattle.words.proofs.fill.Goals as goal

pub returns : goal.returns
returns c = lent_fill _ _ _ _ _ (search rules) (c.fill.ensures.after (λ y e. e))
