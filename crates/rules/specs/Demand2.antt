-- DEMAND 2, the edges: a queue pair's state moves only along permitted edges.
--
-- What is claimed, and of what: after every call that begins a list (an initialisation) and every list of calls, up to the next such call
-- or reset that answers 0, of the next call, whatever it is but one that begins a list, and whatever it is lent: the state code of every
-- queue pair stays, or the call is the first step of a running request on that queue pair, and the state moves along an edge that is
-- permitted, from the state code and for the service type that the record has just before the step, for that request.
--
-- What is not claimed: that a state moves; that an initialisation keeps one (it makes all records zero: `Zeroed` in Demand3);
-- anything of calls between a reset that answers 0 and the next initialisation (no slot is occupied then, and `Elsewhere` in Frames
-- says that the store stays); and anything of worlds that no list of calls leads to, since a slot that is handed in may hold a write
-- that its record does not permit.
use Rattle.std.specs.Prelude.{◌≡◌, true, false, List, [], ℕ}
use Rattle.context.specs.Layout.{is_record}
use Rattle.context.specs.declared.QpNumber.{QpNumber}
use Rattle.context.specs.declared.Record.{Record}
use Rattle.context.specs.declared.Record.TheVariants as rec
use Rattle.edges.specs.States.{state_code}
use Rattle.edges.specs.Edges.{to_of, permits}
use Rattle.edges.specs.declared.Move.TheVariants as move
use Rattle.requests.specs.declared.Command.TheVariants as command
use Rattle.requests.specs.declared.EngineRequest.TheVariants as engine
use Rattle.requests.specs.declared.Request.{Request}
use Rattle.requests.specs.declared.Request.TheVariants as request
use Rattle.request_table.specs.Records.{record_of}
use Rattle.checks.specs.Fields.{state_of, service_of}
use Rattle.slots.specs.declared.Status.TheVariants.{Running}
use Rattle.records.specs.Memory.{record_in}
use Rattle.rules.specs.World.{World, status_at}
use Rattle.rules.specs.Calls.{Call, step}
use Rattle.rules.specs.Lending.{LentCall, world_lent, begins_lent, proper}
use Rattle.rules.specs.Demand3.{run_from}

-- a request moves a queue pair's state from this code, for this service type, to the next code along an edge that is permitted for it
abbrev pub Along : Request → ℕ → ℕ → ℕ → Type 0
Along (request.Command (command.Sw2Hw o)) code service next = ⊥
Along (request.Command (command.Hw2Sw o)) code service next = ⊥
Along (request.Command (command.ResizeCq n)) code service next = ⊥
Along (request.Command (command.QueryQp n)) code service next = ⊥
Along (request.Command (command.ModifyQp e n)) code service next =
    (permits (move.Command e) code service ≡ true) × (next ≡ state_code (to_of e))
Along (request.Engine (engine.ReadState n)) code service next = ⊥
Along (request.Engine (engine.ReadNext n)) code service next = ⊥
Along (request.Engine (engine.ReadAll n)) code service next = ⊥
Along (request.Engine (engine.ReadJoined n c e)) code service next = ⊥
Along (request.Engine (engine.Write p s n psn)) code service next = (permits (move.Engine s) code service ≡ true) × (next ≡ state_code s)

-- what a call makes of a queue pair's state
pub data StateMove (w : World) (c : Call) (X : Record) (code service next : ℕ) : Type 0 where
  stays : next ≡ code → StateMove w c X code service next
  moves : (k : ℕ) (q : Request) → c ≡ step k → status_at k w.row ≡ Running 0 q → record_of q ≡ X → Along q code service next
      → StateMove w c X code service next

abbrev pub Demand2 : World → LentCall → Type 0
Demand2 w c =
    (n : QpNumber) → is_record w.hca.logs (rec.Qp n) ≡ true
    → let before : List ℕ = record_in w.hca.logs (proper w).memory (rec.Qp n) in
    let after : List ℕ = record_in w.hca.logs (proper (world_lent w c)).memory (rec.Qp n) in
    StateMove (proper w) c.call (rec.Qp n) (state_of before) (service_of before) (state_of after)

abbrev pub Statement : Type 0
Statement =
    (before : World) (first : LentCall) → begins_lent before first ≡ true
    → (calls : List LentCall) (last : LentCall)
    → let end : World = (run_from (world_lent before first) [] calls).world in
    begins_lent end last ≡ false → Demand2 end last
