-- What is asked for, and the names that complete it: a request's arguments, and what a joined read finds named in records (02, wish 2).
use Rattle.std.specs.Prelude.{List, [], ◌∷◌, ◌++◌, ℕ, Option, Some, None}
use Rattle.context.specs.declared.CqNumber.{CqNumber}
use Rattle.context.specs.declared.Logs.{Logs}
use Rattle.context.specs.declared.QpNumber.{QpNumber}
use Rattle.context.specs.declared.EqNumber.{EqNumber}
use Rattle.context.specs.declared.Record.{Record}
use Rattle.context.specs.declared.Record.TheVariants as rec
use Rattle.edges.specs.declared.State.{State}
use Rattle.requests.specs.declared.PsnField.{PsnField}
use Rattle.requests.specs.declared.Command.{Command}
use Rattle.requests.specs.declared.EngineRequest.{EngineRequest}
use Rattle.requests.specs.declared.EngineRequest.TheVariants as engine
use Rattle.requests.specs.declared.Request.{Request}
use Rattle.requests.specs.declared.Request.TheVariants as request
use Rattle.numbers.specs.Numbers.{cq_of, eq_of}
use Rattle.mailboxes.specs.Mailboxes.{command_need}
use Rattle.checks.specs.Fields.{cq_named, eq_named}

-- A request's arguments: op or number, index, PSN and state (01, The plain book of demand 3). A slot's request has more in one case: the
-- joined read is asked for by its number and its index, and its slot holds the names that submission read.
pub data Arguments : Type 0 where
  command : Command → Arguments
  read_state : QpNumber → Arguments
  read_next : QpNumber → Arguments
  read_all : QpNumber → Arguments
  write : PsnField → State → QpNumber → ℕ → Arguments
  read_joined : QpNumber → Arguments

abbrev pub engine_arguments : EngineRequest → Arguments
engine_arguments (engine.ReadState n) = read_state n
engine_arguments (engine.ReadNext n) = read_next n
engine_arguments (engine.ReadAll n) = read_all n
engine_arguments (engine.Write p s n psn) = write p s n psn
engine_arguments (engine.ReadJoined n c e) = read_joined n

-- what the request of a slot was asked with
abbrev pub arguments_of : Request → Arguments
arguments_of (request.Command c) = command c
arguments_of (request.Engine e) = engine_arguments e

-- the mailbox bytes that it needs: an engine request has no mailbox (01, Engine requests)
abbrev pub needed : Arguments → ℕ
needed (command c) = command_need c
needed (read_state n) = 0
needed (read_next n) = 0
needed (read_all n) = 0
needed (write p s n psn) = 0
needed (read_joined n) = 0

-- ---- names

-- the request with the names that it found, or a name that is out of range
pub data Named : Type 0 where
  found : Request → Named
  lost : Named

abbrev pub joins : QpNumber → CqNumber → EqNumber → Request
joins n c e = request.Engine (engine.ReadJoined n c e)

-- The event queue is the one named in word 10h of the completion queue, and that is the one named in word 70h of the queue pair; a name is
-- in range if it is below the count of its kind (02, wish 2).
abbrev pub eq_names : QpNumber → CqNumber → Option EqNumber → Named
eq_names n c (Some e) = found (joins n c e)
eq_names n c None = lost

abbrev pub cq_names : Logs → (Record → List ℕ) → QpNumber → Option CqNumber → Named
cq_names g s n (Some c) = eq_names n c (eq_of g (eq_named (s (rec.Cq c))))
cq_names g s n None = lost

-- The request that is asked for, with the names that these records have.
abbrev pub named_in : Logs → (Record → List ℕ) → Arguments → Named
named_in g s (command c) = found (request.Command c)
named_in g s (read_state n) = found (request.Engine (engine.ReadState n))
named_in g s (read_next n) = found (request.Engine (engine.ReadNext n))
named_in g s (read_all n) = found (request.Engine (engine.ReadAll n))
named_in g s (write p t n psn) = found (request.Engine (engine.Write p t n psn))
named_in g s (read_joined n) = cq_names g s n (cq_of g (cq_named (s (rec.Qp n))))

-- the bytes of some records, one behind the other
abbrev pub joined : List Record → (Record → List ℕ) → List ℕ
joined [] s = []
joined (X ∷ Xs) s = s X ++ joined Xs s
