use Rattle.word_moves.specs.Copies.{words_none}
use Rattle.word_moves.specs.Steps.{next_word, last_word, length_mapped}
use borrow.Author.Rules.{rules}
use Rattle.word_moves.proofs.take_words.Goals as goal

pub loop-k-init : goal.loop-k-init
loop-k-init c = (search rules, search rules, words_none _ _ _)

pub loop-k-preserved : goal.loop-k-preserved
loop-k-preserved c = (search rules, search (rules, length_mapped), search (rules, next_word))

pub returns : goal.returns
returns c = search (rules, last_word)
