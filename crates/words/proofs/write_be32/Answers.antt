use Rattle.std.proofs.Common.{◌∙◌, ap, arith}
use Rattle.words.specs.Words.{be_bytes}
use Rattle.words.proofs.Words.{length_be_bytes}
use Rattle.words.proofs.Leaves.{be_given, lent_part}
use Rattle.words.proofs.write_be32.Goals as goal

pub returns : goal.returns
returns c = lent_part _ 4 _ _ _ (length_be_bytes 4 _) (c.copy_from_slice.ensures.after ∙ c.to_be_bytes.ensures ∙ be_given _ ∙ ap (be_bytes 4) (omega arith))
