use Rattle.script_words.proofs.Turns.{word_cut}
use borrow.Author.Rules.{rules}
use Rattle.script_words.proofs.word.Goals as goal

pub returns : goal.returns
returns c = search (rules, word_cut)
