use Rattle.std.proofs.Common.{◌∙◌, ◌≤◌, arith, length}
use Rattle.answers.specs.Answers.{next_answer}
use Rattle.words.specs.Parts.{part}
use Rattle.words.proofs.Parts.{splice_first}
use Rattle.answers.proofs.next_answer.Goals as goal

pub returns : goal.returns
unfolding next_answer part
returns c =
    let h : 1 ≤ length c.args.out.now = omega (arith, c.requires) in
    rw (← c.state_code.ensures) (c.copy_to.ensures ∙ splice_first _ _ _ h)
