use Rattle.register_calls.specs.Made.{read_short, on_command, on_short, on_malformed}
use borrow.Author.Rules.{rules}
use Rattle.register_calls.proofs.read_register.Goals as goal

pub returns-then-fields-lt32 : goal.returns-then-fields-lt32
returns-then-fields-lt32 c = search (rules, read_short)

pub returns-in-Ok : goal.returns-in-Ok
returns-in-Ok c = search (rules, on_command)

pub returns-in-Err-Short : goal.returns-in-Err-Short
returns-in-Err-Short c = search (rules, on_short)

pub returns-in-Err-Malformed : goal.returns-in-Err-Malformed
returns-in-Err-Malformed c = search (rules, on_malformed)
