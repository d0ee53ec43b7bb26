use Rattle.std.proofs.Common.{◌∙◌, ap, arith}
use Rattle.words.specs.Words.{le_bytes}
use Rattle.words.proofs.Words.{length_le_bytes}
use Rattle.words.proofs.Leaves.{le_given, lent_part}
use Rattle.words.proofs.write_le32.Goals as goal

pub returns : goal.returns
returns c = lent_part _ 4 _ _ _ (length_le_bytes 4 _) (c.copy_from_slice.ensures.after ∙ c.to_le_bytes.ensures ∙ le_given _ ∙ ap (le_bytes 4) (omega arith))
