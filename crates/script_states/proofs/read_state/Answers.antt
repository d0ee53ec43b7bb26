use Rattle.std.proofs.Common.{sym, ◌∙◌}
use Rattle.script_states.specs.Laws.{no_numbers, not_open, no_logs, state_made}
use Rattle.script_states.proofs.read_state.Goals as goal

pub returns-in_err-read : goal.returns-in_err-read
returns-in_err-read c = c.from_residual.ensures ∙ no_numbers _ (sym c.numbers.ensures ∙ c.in_err-read.was)

pub returns-then-read-gt1 : goal.returns-then-read-gt1
returns-then-read-gt1 c = not_open _ _ (sym c.numbers.ensures ∙ c.in_ok-read.was) c.if-read-gt1.true

pub returns-in_err-logs : goal.returns-in_err-logs
returns-in_err-logs c = c.from_residual-in_err-logs.ensures ∙ no_logs _ _ (sym c.numbers.ensures ∙ c.in_ok-read.was) c.if-read-gt1.false (sym c.logs_of.ensures ∙ c.in_err-logs.was)

pub returns : goal.returns
returns c = state_made _ _ _ (sym c.numbers.ensures ∙ c.in_ok-read.was) c.if-read-gt1.false (sym c.logs_of.ensures ∙ c.in_ok-logs.was)
