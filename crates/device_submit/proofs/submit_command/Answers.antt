use Rattle.device_submit.specs.Submitting.{command_promises, command_submitted}
use borrow.Author.Rules.{rules}
use Rattle.device_submit.proofs.submit_command.Goals as goal

pub apply-requires : goal.apply-requires
apply-requires c = search (rules, command_promises)

pub returns : goal.returns
returns c = search (rules, command_submitted)
