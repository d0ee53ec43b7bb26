-- How many mailbox bytes each request needs.
use Rattle.std.specs.Prelude.{ℕ}
use Rattle.edges.specs.declared.Edge.{Edge}
use Rattle.edges.specs.declared.Edge.TheVariants.{ResetToInit, InitToInit, InitToRtr, RtrToRts, RtsToRts, SqeToRts}
use Rattle.edges.specs.declared.Edge.TheVariants.{RtsToSqd, SqdToSqd, SqdToRts, ToErr, ToReset}
use Rattle.requests.specs.declared.Owned.{Owned}
use Rattle.requests.specs.declared.Owned.TheVariants as owned
use Rattle.requests.specs.declared.Command.{Command}
use Rattle.requests.specs.declared.Command.TheVariants as command
use Rattle.requests.specs.declared.Request.{Request}
use Rattle.requests.specs.declared.Request.TheVariants as request

-- the mailbox bytes that a record with an owner stores (01, The context store)
abbrev pub stored_of : Owned → ℕ
stored_of (owned.Mpt n) = 56
stored_of (owned.Eq n) = 48
stored_of (owned.Cq n) = 56

-- an edge that takes words needs the whole image of the record, the others nothing (01, Commands)
abbrev pub edge_need : Edge → ℕ
edge_need ResetToInit = 164
edge_need InitToInit = 164
edge_need InitToRtr = 164
edge_need RtrToRts = 164
edge_need RtsToRts = 164
edge_need SqeToRts = 164
edge_need RtsToSqd = 0
edge_need SqdToSqd = 164
edge_need SqdToRts = 164
edge_need ToErr = 0
edge_need ToReset = 0

-- SW2HW needs what it stores, RESIZE_CQ 8 bytes; HW2SW and QUERY_QP take nothing from a mailbox (01, Commands)
abbrev pub command_need : Command → ℕ
command_need (command.Sw2Hw o) = stored_of o
command_need (command.Hw2Sw o) = 0
command_need (command.ResizeCq n) = 8
command_need (command.QueryQp n) = 0
command_need (command.ModifyQp e n) = edge_need e

-- an engine request has no mailbox (01, Engine requests)
abbrev pub need_of : Request → ℕ
need_of (request.Command c) = command_need c
need_of (request.Engine e) = 0
