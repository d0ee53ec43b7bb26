-- Whether a record's contents permit a request: the owner rule and the decision on edges.
use Rattle.std.specs.Prelude.{Bool, true, false, not, List, ℕ, Result, Ok, Err}
use Rattle.words.specs.Choice.{pick}
use Rattle.edges.specs.Edges.{permits, for_some_type, judge_of}
use Rattle.edges.specs.declared.Move.{Move}
use Rattle.edges.specs.declared.Move.TheVariants as move
use Rattle.requests.specs.declared.Command.{Command}
use Rattle.requests.specs.declared.Command.TheVariants as command
use Rattle.requests.specs.declared.EngineRequest.{EngineRequest}
use Rattle.requests.specs.declared.EngineRequest.TheVariants as engine
use Rattle.requests.specs.declared.Request.{Request}
use Rattle.requests.specs.declared.Request.TheVariants as request
use Rattle.checks.specs.Fields.{state_of, service_of, is_hardware}
use Rattle.checks.specs.Verdicts.{by_edge}
use Rattle.checks.specs.declared.Denial.TheVariants as denial
use Rattle.checks.specs.declared.Denial.{Denial}

-- The verdict of a record that must be software's, and of one that must be the hardware's.
abbrev pub software_only : List ℕ → Result (Unit {0}) Denial
software_only r = pick (is_hardware r) (Err denial.Owner) (Ok tt)

abbrev pub hardware_only : List ℕ → Result (Unit {0}) Denial
hardware_only r = pick (is_hardware r) (Ok tt) (Err denial.Owner)

-- The verdict on a move of the queue pair with this record, by its state code and service type.
abbrev pub move_verdict : Move → List ℕ → Result (Unit {0}) Denial
move_verdict asked r = by_edge (judge_of asked (state_of r) (service_of r))

-- SW2HW takes a record of software's; HW2SW and RESIZE_CQ take one of the hardware's; QUERY_QP takes any; an edge goes by the table of
-- edges (01, Commands).
abbrev pub command_permits : Command → List ℕ → Result (Unit {0}) Denial
command_permits (command.Sw2Hw o) r = software_only r
command_permits (command.Hw2Sw o) r = hardware_only r
command_permits (command.ResizeCq n) r = hardware_only r
command_permits (command.QueryQp n) r = Ok tt
command_permits (command.ModifyQp e n) r = move_verdict (move.Command e) r

-- Writes go by the engine's edges, and reads have no limit: "No other engine write is permitted" speaks of writes (01, Engine requests;
-- docs/DECISIONS.md, 28).
abbrev pub engine_permits : EngineRequest → List ℕ → Result (Unit {0}) Denial
engine_permits (engine.ReadState n) r = Ok tt
engine_permits (engine.ReadNext n) r = Ok tt
engine_permits (engine.ReadAll n) r = Ok tt
engine_permits (engine.Write p s n psn) r = move_verdict (move.Engine s) r
engine_permits (engine.ReadJoined n c e) r = Ok tt

-- What a record with these bytes answers to a request.
abbrev pub permission_of : Request → List ℕ → Result (Unit {0}) Denial
permission_of (request.Command c) r = command_permits c r
permission_of (request.Engine e) r = engine_permits e r

-- The same as a test: a record that has an owner must have the right one, a queue pair must permit the edge, and a read is always
-- permitted (01, Commands; Engine requests).
abbrev pub permits_move : Move → List ℕ → Bool
permits_move asked r = permits asked (state_of r) (service_of r)

abbrev pub permits_command : Command → List ℕ → Bool
permits_command (command.Sw2Hw o) r = not (is_hardware r)
permits_command (command.Hw2Sw o) r = is_hardware r
permits_command (command.ResizeCq n) r = is_hardware r
permits_command (command.QueryQp n) r = true
permits_command (command.ModifyQp e n) r = permits_move (move.Command e) r

abbrev pub permits_engine : EngineRequest → List ℕ → Bool
permits_engine (engine.ReadState n) r = true
permits_engine (engine.ReadNext n) r = true
permits_engine (engine.ReadAll n) r = true
permits_engine (engine.Write p s n psn) r = permits_move (move.Engine s) r
permits_engine (engine.ReadJoined n c e) r = true

abbrev pub permits_in : Request → List ℕ → Bool
permits_in (request.Command c) r = permits_command c r
permits_in (request.Engine e) r = permits_engine e r

-- The request is an engine write that some service type permits in the record's state (02, wish 5).
abbrev pub engine_for_some_type : EngineRequest → List ℕ → Bool
engine_for_some_type (engine.ReadState n) r = false
engine_for_some_type (engine.ReadNext n) r = false
engine_for_some_type (engine.ReadAll n) r = false
engine_for_some_type (engine.Write p s n psn) r = for_some_type (move.Engine s) (state_of r)
engine_for_some_type (engine.ReadJoined n c e) r = false

abbrev pub for_some_type_in : Request → List ℕ → Bool
for_some_type_in (request.Command c) r = false
for_some_type_in (request.Engine e) r = engine_for_some_type e r
