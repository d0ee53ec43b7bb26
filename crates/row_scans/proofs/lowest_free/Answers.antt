use Rattle.rows.proofs.Scans.{free_more, free_found, free_none}
use Rattle.words.proofs.Choice.{told}
use borrow.Author.Rules.{rules}
use Rattle.row_scans.proofs.lowest_free.Goals as goal

pub loop-i-preserved : goal.loop-i-preserved
loop-i-preserved c = search (rules, told, free_more)

pub returns-in-loop-i : goal.returns-in-loop-i
returns-in-loop-i c = search (rules, told, free_found)

pub returns : goal.returns
returns c = search (rules, free_none)
