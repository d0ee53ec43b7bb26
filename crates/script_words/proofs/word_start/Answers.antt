use Rattle.script_words.proofs.Turns.{behind_found, behind_more, behind_end}
use borrow.Author.Rules.{rules}
use Rattle.script_words.proofs.word_start.Goals as goal

pub returns-then-left-eq0 : goal.returns-then-left-eq0
returns-then-left-eq0 c = (search rules, search (rules, behind_found))

pub loop-i-preserved : goal.loop-i-preserved
loop-i-preserved c = search (rules, behind_more)

pub returns : goal.returns
returns c = (search rules, search (rules, behind_end))
