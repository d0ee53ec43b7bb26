use Rattle.answers.specs.Answers.{joined_answer}
use Rattle.words.specs.Parts.{part}
use Rattle.answers.proofs.joined_answer.Goals as goal

pub returns : goal.returns
unfolding joined_answer part
returns c = c.copy_to.ensures
