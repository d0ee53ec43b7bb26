use Rattle.hcr.proofs.Writing.{answers_short, answers_bad_op, answers_done}
use borrow.Author.Rules.{rules}
use Rattle.hcr_writer.proofs.write.Goals as goal

pub returns-then-hcr-lt28 : goal.returns-then-hcr-lt28
returns-then-hcr-lt28 c = answers_short _ _ (search rules)

pub returns-then-c-gt4095 : goal.returns-then-c-gt4095
returns-then-c-gt4095 c = answers_bad_op _ _ (search rules) (search rules)

pub returns : goal.returns
returns c = answers_done _ _ _ (search rules) (search rules) c.write_words.ensures
