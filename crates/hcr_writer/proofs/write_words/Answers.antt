-- `seven_words` takes what each call ensures, the last one first.
use Rattle.hcr.proofs.Writing.{seven_words}
use Rattle.hcr_writer.proofs.write_words.Goals as goal

pub returns : goal.returns
returns c =
    seven_words _ _ _ _ _ _ _ _ _
    c.write_le32-3.ensures
    c.join_18.ensures
    c.write_le32-2.ensures
    c.join_14.ensures
    c.write_param-2.ensures
    c.write_le32.ensures
    c.write_param.ensures
    c.requires.0
