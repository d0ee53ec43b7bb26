use Rattle.rows.proofs.Scans.{any_more, any_found, any_none}
use Rattle.words.proofs.Choice.{told}
use borrow.Author.Rules.{rules}
use Rattle.row_commands.proofs.command_from.Goals as goal

pub returns-then-has_command : goal.returns-then-has_command
returns-then-has_command c = search (rules, told, any_found)

pub loop-i-preserved : goal.loop-i-preserved
loop-i-preserved c = search (rules, told, any_more)

pub returns : goal.returns
returns c = search (rules, any_none)
