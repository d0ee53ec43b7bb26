use Rattle.word_moves.specs.Steps.{taken_copied, taken_left}
use borrow.Author.Rules.{rules}
use Rattle.word_moves.proofs.take_word.Goals as goal

pub returns-then-takes_word : goal.returns-then-takes_word
returns-then-takes_word c = search (rules, taken_copied)

pub returns-else-takes_word : goal.returns-else-takes_word
returns-else-takes_word c = search (rules, taken_left)
