use Rattle.answers.specs.Answers.{whole_answer}
use Rattle.words.specs.Parts.{part}
use Rattle.answers.proofs.whole_answer.Goals as goal

pub returns : goal.returns
unfolding whole_answer part
returns c = c.copy_to.ensures
