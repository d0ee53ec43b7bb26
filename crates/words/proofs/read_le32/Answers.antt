use Rattle.std.proofs.Common.{◌∙◌}
use borrow.Author.Rules.{rules}
use Rattle.words.proofs.Leaves.{from_le_four, le32_is}
use Rattle.words.proofs.read_le32.Goals as goal

pub returns : goal.returns
returns c = c.from_le_bytes.ensures ∙ from_le_four _ _ _ _ ∙ le32_is _ _ (search rules)
