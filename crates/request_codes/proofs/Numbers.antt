-- Laws about the definitions of specs/Numbers.antt.
use Rattle.std.specs.Prelude.{◌≡◌, refl, Some}
use Rattle.edges.specs.declared.Edge.TheVariants as edge
use Rattle.requests.specs.declared.Owned.TheVariants as owned
use Rattle.requests.specs.declared.PsnField.TheVariants as psn
use Rattle.requests.specs.declared.Command.{Command}
use Rattle.requests.specs.declared.Command.TheVariants as command
use Rattle.requests.specs.declared.EngineRequest.{EngineRequest}
use Rattle.requests.specs.declared.EngineRequest.TheVariants as engine
use Rattle.commands.specs.Commands.{read_op}
use Rattle.engines.specs.Engines.{read_number}
use Rattle.request_codes.specs.Numbers.{command_op, engine_number, numbered_as, op_of}

pub op_read : (c : Command) → read_op (command_op c) ≡ Some (op_of c)
unfolding read_op
op_read (command.Sw2Hw (owned.Mpt n)) = refl
op_read (command.Sw2Hw (owned.Eq n)) = refl
op_read (command.Sw2Hw (owned.Cq n)) = refl
op_read (command.Hw2Sw (owned.Mpt n)) = refl
op_read (command.Hw2Sw (owned.Eq n)) = refl
op_read (command.Hw2Sw (owned.Cq n)) = refl
op_read (command.ResizeCq n) = refl
op_read (command.QueryQp n) = refl
op_read (command.ModifyQp edge.ResetToInit n) = refl
op_read (command.ModifyQp edge.InitToInit n) = refl
op_read (command.ModifyQp edge.InitToRtr n) = refl
op_read (command.ModifyQp edge.RtrToRts n) = refl
op_read (command.ModifyQp edge.RtsToRts n) = refl
op_read (command.ModifyQp edge.SqeToRts n) = refl
op_read (command.ModifyQp edge.RtsToSqd n) = refl
op_read (command.ModifyQp edge.SqdToSqd n) = refl
op_read (command.ModifyQp edge.SqdToRts n) = refl
op_read (command.ModifyQp edge.ToErr n) = refl
op_read (command.ModifyQp edge.ToReset n) = refl

pub number_read : (e : EngineRequest) → read_number (engine_number e) ≡ Some (numbered_as e)
unfolding read_number
number_read (engine.ReadState n) = refl
number_read (engine.ReadNext n) = refl
number_read (engine.ReadAll n) = refl
number_read (engine.Write psn.NextSend s n x) = refl
number_read (engine.Write psn.LastAcked s n x) = refl
number_read (engine.Write psn.Expected s n x) = refl
number_read (engine.ReadJoined n c e) = refl
