use Rattle.script_numbers.specs.Turns.{prefix_read, no_prefix_read}
use Rattle.script_numbers.proofs.number.Goals as goal

pub returns-in-Some : goal.returns-in-Some
returns-in-Some c = prefix_read _ _ _ _ c.in-Some.ensures.cases.0 c.in-Some.ensures.cases.1 c.digits.ensures

pub returns-in-None : goal.returns-in-None
returns-in-None c = no_prefix_read _ _ _ c.in-None.ensures.cases c.digits-in-None.ensures
