-- The numbers by which a request is submitted (01, Commands; 01, Engine requests; 02, wish 2). Reading them gives the request's kind back.
use Rattle.std.specs.Prelude.{ℕ}
use Rattle.context.specs.Layout.{number_of}
use Rattle.request_table.specs.Records.{record_of}
use Rattle.edges.specs.declared.Edge.{Edge}
use Rattle.edges.specs.declared.Edge.TheVariants as edge
use Rattle.requests.specs.declared.Owned.{Owned}
use Rattle.requests.specs.declared.Owned.TheVariants as owned
use Rattle.requests.specs.declared.PsnField.{PsnField}
use Rattle.requests.specs.declared.PsnField.TheVariants as psn
use Rattle.requests.specs.declared.Command.{Command}
use Rattle.requests.specs.declared.Command.TheVariants as command
use Rattle.requests.specs.declared.EngineRequest.{EngineRequest}
use Rattle.requests.specs.declared.EngineRequest.TheVariants as engine
use Rattle.requests.specs.declared.Request.{Request}
use Rattle.commands.specs.declared.Op.{Op}
use Rattle.commands.specs.declared.Op.TheVariants as op
use Rattle.commands.specs.declared.Table.TheVariants as table
use Rattle.engines.specs.declared.EngineNumber.{EngineNumber}
use Rattle.engines.specs.declared.EngineNumber.TheVariants as number

abbrev pub edge_op : Edge → ℕ
edge_op edge.ResetToInit = 0x19
edge_op edge.InitToInit = 0x2d
edge_op edge.InitToRtr = 0x1a
edge_op edge.RtrToRts = 0x1b
edge_op edge.RtsToRts = 0x1c
edge_op edge.SqeToRts = 0x1d
edge_op edge.RtsToSqd = 0x1f
edge_op edge.SqdToSqd = 0x38
edge_op edge.SqdToRts = 0x20
edge_op edge.ToErr = 0x1e
edge_op edge.ToReset = 0x21

abbrev pub sw2hw_op : Owned → ℕ
sw2hw_op (owned.Mpt n) = 0x0d
sw2hw_op (owned.Eq n) = 0x13
sw2hw_op (owned.Cq n) = 0x16

abbrev pub hw2sw_op : Owned → ℕ
hw2sw_op (owned.Mpt n) = 0x0f
hw2sw_op (owned.Eq n) = 0x14
hw2sw_op (owned.Cq n) = 0x17

abbrev pub command_op : Command → ℕ
command_op (command.Sw2Hw o) = sw2hw_op o
command_op (command.Hw2Sw o) = hw2sw_op o
command_op (command.ResizeCq n) = 0x2c
command_op (command.QueryQp n) = 0x22
command_op (command.ModifyQp e n) = edge_op e

abbrev pub write_number : PsnField → ℕ
write_number psn.NextSend = 3
write_number psn.LastAcked = 4
write_number psn.Expected = 5

abbrev pub engine_number : EngineRequest → ℕ
engine_number (engine.ReadState n) = 1
engine_number (engine.ReadNext n) = 2
engine_number (engine.ReadAll n) = 6
engine_number (engine.Write p s n x) = write_number p
engine_number (engine.ReadJoined n c e) = 7

-- the index of the request's record, of the joined read its queue pair's (02, wish 2)
abbrev pub index_of : Request → ℕ
index_of r = number_of (record_of r)

-- ---- what reads them

-- the op of a command, as it is read
abbrev pub op_of : Command → Op
op_of (command.Sw2Hw (owned.Mpt n)) = op.Sw2Hw table.Mpt
op_of (command.Sw2Hw (owned.Eq n)) = op.Sw2Hw table.Eq
op_of (command.Sw2Hw (owned.Cq n)) = op.Sw2Hw table.Cq
op_of (command.Hw2Sw (owned.Mpt n)) = op.Hw2Sw table.Mpt
op_of (command.Hw2Sw (owned.Eq n)) = op.Hw2Sw table.Eq
op_of (command.Hw2Sw (owned.Cq n)) = op.Hw2Sw table.Cq
op_of (command.ResizeCq n) = op.ResizeCq
op_of (command.QueryQp n) = op.QueryQp
op_of (command.ModifyQp e n) = op.ModifyQp e

-- the number of an engine request, as it is read
abbrev pub numbered_as : EngineRequest → EngineNumber
numbered_as (engine.ReadState n) = number.ReadState
numbered_as (engine.ReadNext n) = number.ReadNext
numbered_as (engine.ReadAll n) = number.ReadAll
numbered_as (engine.Write p s n x) = number.Write p
numbered_as (engine.ReadJoined n c e) = number.ReadJoined
