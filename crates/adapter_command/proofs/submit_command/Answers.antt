use Rattle.lent_answers.proofs.NotEight.{command_not_eight}
use Rattle.lent_answers.proofs.Tested.{other_row}
use Rattle.adapter_command.proofs.submit_command.Goals as goal

pub returns-then-row-ne8 : goal.returns-then-row-ne8
returns-then-row-ne8 c = command_not_eight _ _ _ _ (other_row _ c.if-row-ne8.true) _ _
