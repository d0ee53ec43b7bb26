-- Which records a request holds, whether it reads or writes them, and which numbers its submission accepts.
use Rattle.std.specs.Prelude.{Bool, true, false, List, [], ◌∷◌}
use Rattle.words.specs.Choice.{both, either}
use Rattle.context.specs.Layout.{is_record, same_record}
use Rattle.context.specs.declared.Logs.{Logs}
use Rattle.context.specs.declared.Record.{Record}
use Rattle.context.specs.declared.Record.TheVariants as rec
use Rattle.requests.specs.Psns.{psn_fits}
use Rattle.requests.specs.declared.Owned.{Owned}
use Rattle.requests.specs.declared.Owned.TheVariants as owned
use Rattle.requests.specs.declared.Command.{Command}
use Rattle.requests.specs.declared.Command.TheVariants as command
use Rattle.requests.specs.declared.EngineRequest.{EngineRequest}
use Rattle.requests.specs.declared.EngineRequest.TheVariants as engine
use Rattle.requests.specs.declared.Request.{Request}
use Rattle.requests.specs.declared.Request.TheVariants as request
use Rattle.request_table.specs.declared.Records.{Records}
use Rattle.request_table.specs.declared.Records.TheVariants as records

-- the record that a command on an owner hands over, by its kind and index (01, Commands, SW2HW and HW2SW)
abbrev pub owned_record : Owned → Record
owned_record (owned.Mpt n) = rec.Mpt n
owned_record (owned.Eq n) = rec.Eq n
owned_record (owned.Cq n) = rec.Cq n

-- a command names its record by in_modifier; RESIZE_CQ's is a completion queue, QUERY_QP's and an edge's a queue pair
-- (01, Commands)
abbrev pub command_record : Command → Record
command_record (command.Sw2Hw o) = owned_record o
command_record (command.Hw2Sw o) = owned_record o
command_record (command.ResizeCq n) = rec.Cq n
command_record (command.QueryQp n) = rec.Qp n
command_record (command.ModifyQp e n) = rec.Qp n

-- an engine request's index is a queue pair's number: 01 does not say so, but only the QP record has a state and PSNs
-- (docs/DECISIONS.md, 28)
abbrev pub engine_record : EngineRequest → Record
engine_record (engine.ReadState n) = rec.Qp n
engine_record (engine.ReadNext n) = rec.Qp n
engine_record (engine.ReadAll n) = rec.Qp n
engine_record (engine.Write p s n psn) = rec.Qp n
engine_record (engine.ReadJoined n c e) = rec.Qp n

-- the record that a request's index names
abbrev pub record_of : Request → Record
record_of (request.Command c) = command_record c
record_of (request.Engine e) = engine_record e

-- the code's value for some records, as a list: of one, or of three
abbrev pub list_of : Records → List Record
list_of (records.One X) = X ∷ []
list_of (records.Three n c e) = rec.Qp n ∷ rec.Cq c ∷ rec.Eq e ∷ []

-- what a request holds while it runs: the record that its index names (01, Bursts, slots and holds); a joined read the queue pair, the
-- completion queue and the event queue (02, wish 2)
abbrev pub engine_holds : EngineRequest → Records
engine_holds (engine.ReadState n) = records.One (rec.Qp n)
engine_holds (engine.ReadNext n) = records.One (rec.Qp n)
engine_holds (engine.ReadAll n) = records.One (rec.Qp n)
engine_holds (engine.Write p s n psn) = records.One (rec.Qp n)
engine_holds (engine.ReadJoined n c e) = records.Three n c e

abbrev pub holds_of : Request → Records
holds_of (request.Command c) = records.One (command_record c)
holds_of (request.Engine e) = engine_holds e

abbrev pub records_of : Request → List Record
records_of q = list_of (holds_of q)

-- what stands past the end of a list of records
abbrev pub no_record : Record
no_record = rec.Qp (record { 0 = 0 })

-- X is one of some records
abbrev pub one_of : List Record → Record → Bool
one_of [] X = false
one_of (Y ∷ Ys) X = either (same_record Y X) (one_of Ys X)

-- the store has all of some records, by its counts
abbrev pub all_records : Logs → List Record → Bool
all_records g [] = true
all_records g (X ∷ Xs) = both (is_record g X) (all_records g Xs)

-- QUERY_QP and the engine requests 1, 2, 6 and 7 read; every other request on a record writes (01, The plain book of demand 3; 02,
-- wish 2)
abbrev pub command_writes : Command → Bool
command_writes (command.Sw2Hw o) = true
command_writes (command.Hw2Sw o) = true
command_writes (command.ResizeCq n) = true
command_writes (command.QueryQp n) = false
command_writes (command.ModifyQp e n) = true

abbrev pub engine_writes : EngineRequest → Bool
engine_writes (engine.ReadState n) = false
engine_writes (engine.ReadNext n) = false
engine_writes (engine.ReadAll n) = false
engine_writes (engine.Write p s n psn) = true
engine_writes (engine.ReadJoined n c e) = false

abbrev pub writes_of : Request → Bool
writes_of (request.Command c) = command_writes c
writes_of (request.Engine e) = engine_writes e

-- a command, not an engine request
abbrev pub is_command : Request → Bool
is_command (request.Command c) = true
is_command (request.Engine e) = false

-- the PSN of an engine write fits 24 bits (01, Numbers returned, the second 3); a state above 6 and a number that is not
-- served cannot be held by a request
abbrev pub engine_psn_holds : EngineRequest → Bool
engine_psn_holds (engine.ReadState n) = true
engine_psn_holds (engine.ReadNext n) = true
engine_psn_holds (engine.ReadAll n) = true
engine_psn_holds (engine.Write p s n psn) = psn_fits psn
engine_psn_holds (engine.ReadJoined n c e) = true

abbrev pub psn_holds : Request → Bool
psn_holds (request.Command c) = true
psn_holds (request.Engine e) = engine_psn_holds e

-- a request whose numbers its submission accepts: the store has all its records, and its PSN fits
unfoldable pub numbers_hold : Logs → Request → Bool
numbers_hold g q = both (all_records g (records_of q)) (psn_holds q)
