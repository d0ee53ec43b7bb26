use Rattle.std.proofs.Common.{◌∙◌}
use Rattle.hcr.proofs.Fields.{bit_is, joined18}
use borrow.Author.Rules.{rules}
use Rattle.hcr_writer.proofs.join_18.Goals as goal

pub returns : goal.returns
returns c = rw (c.from.ensures, c.from-2.ensures) (joined18 _ _ _ _ (c.from-3.ensures ∙ bit_is _) (search rules) (search rules))
