use borrow.Author.Rules.{rules}
use Rattle.lent_rows.proofs.Eight.{stored_all}
use Rattle.lent_rows.proofs.save.Goals as goal

pub returns : goal.returns
returns c = stored_all _ c.args.row.now c.args.v c.requires (search rules)
