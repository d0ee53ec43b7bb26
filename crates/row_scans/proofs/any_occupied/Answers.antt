use Rattle.rows.proofs.Scans.{any_more, any_found, any_none}
use Rattle.words.proofs.Choice.{told}
use borrow.Author.Rules.{rules}
use Rattle.row_scans.proofs.any_occupied.Goals as goal

pub returns-then-is_occupied : goal.returns-then-is_occupied
returns-then-is_occupied c = search (rules, told, any_found)

pub loop-k-preserved : goal.loop-k-preserved
loop-k-preserved c = search (rules, told, any_more)

pub returns : goal.returns
returns c = search (rules, any_none)
