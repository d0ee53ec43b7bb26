use Rattle.std.proofs.Common.{◌∙◌}
use Rattle.words.proofs.Leaves.{lent_part}
use Rattle.words.proofs.Words.{length_le_bytes}
use Rattle.register_calls.specs.Bytes.{eight_given}
use Rattle.register_calls.proofs.write_le64.Goals as goal

pub returns : goal.returns
returns c = lent_part _ 8 _ _ _ (length_le_bytes 8 _) (c.copy_from_slice.ensures.after ∙ c.to_le_bytes.ensures ∙ eight_given _)
