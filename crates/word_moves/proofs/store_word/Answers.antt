use Rattle.word_moves.specs.Steps.{stored_copied, stored_left}
use borrow.Author.Rules.{rules}
use Rattle.word_moves.proofs.store_word.Goals as goal

pub returns-then-first-at : goal.returns-then-first-at
returns-then-first-at c = search (rules, stored_copied)

pub returns-else-first-at : goal.returns-else-first-at
returns-else-first-at c = search (rules, stored_left)
