use Rattle.std.proofs.Common.{◌∙◌}
use borrow.Author.Rules.{rules}
use Rattle.words.proofs.Leaves.{from_be_four, be32_is}
use Rattle.words.proofs.read_be32.Goals as goal

pub returns : goal.returns
returns c = c.from_be_bytes.ensures ∙ from_be_four _ _ _ _ ∙ be32_is _ _ (search rules)
