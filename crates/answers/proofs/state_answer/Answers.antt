use Rattle.answers.specs.Answers.{state_answer}
use Rattle.words.proofs.Parts.{splice_one}
use Rattle.answers.proofs.state_answer.Goals as goal

pub returns : goal.returns
unfolding state_answer
returns c = rw (← c.state_code.ensures) (splice_one _ _ c.requires.1)
