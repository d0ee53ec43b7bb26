use Rattle.commands.specs.Commands.{read_command}
use Rattle.commands.proofs.Reading.{command_answer_lem}
use Rattle.words.proofs.Choice.{cases}
use Rattle.commands.proofs.read_command.Goals as goal

pub returns-then-modifier-op_modifier : goal.returns-then-modifier-op_modifier
unfolding read_command
returns-then-modifier-op_modifier c = command_answer_lem _ _ _ _ _ (rw (← c.op_modifier.ensures) (search cases))

pub returns : goal.returns
unfolding read_command
returns c = command_answer_lem _ _ _ _ _ (rw (← c.op_modifier.ensures) (search cases))
