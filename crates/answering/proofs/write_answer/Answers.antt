use Rattle.answering.specs.Answered.{answer_made}
use borrow.Author.Rules.{rules}
use Rattle.answering.proofs.write_answer.Goals as goal

pub returns : goal.returns
returns c = search (rules, answer_made)
