-- The request of a slot that is handed in, from its numbers. It is read as a submission reads it, but with counts that every index of
-- 32 bits is below, and any PSN. A joined read has the names that a submission found, any two (02, wish 2).
use Rattle.std.specs.Prelude.{◌≡◌, ℕ, ◌<◌, ◌^◌, ltb, Option, Some, None}
use Rattle.std.proofs.Common.{◌∙◌, ap, lt-ltb}
use Rattle.words.specs.Choice.{pick}
use Rattle.context.specs.declared.QpNumber.{QpNumber}
use Rattle.context.specs.declared.Logs.{Logs}
use Rattle.commands.specs.Commands.{read_op, read_command}
use Rattle.commands.specs.declared.Op.{Op}
use Rattle.commands.specs.declared.CommandAsked.{CommandAsked}
use Rattle.commands.specs.declared.CommandAsked.TheVariants as asked
use Rattle.engines.specs.Engines.{read_number, read_engine, engine_right}
use Rattle.engines.proofs.Reading.{engine_found}
use Rattle.engines.specs.declared.EngineNumber.{EngineNumber}
use Rattle.engines.specs.declared.EngineNumber.TheVariants as number
use Rattle.engines.specs.declared.EngineAsked.{EngineAsked}
use Rattle.engines.specs.declared.EngineAsked.TheVariants as engineAsked
use Rattle.requests.specs.declared.EngineRequest.{EngineRequest}
use Rattle.requests.specs.declared.EngineRequest.TheVariants as engine
use Rattle.requests.specs.declared.Request.TheVariants as request
use Rattle.requests.specs.declared.Request.{Request}

abbrev pub any_index : Logs
any_index = record { qps = 32; cqs = 32; eqs = 32; mpts = 32 }

-- a command that takes a slot
abbrev pub on_record : Option CommandAsked → Option Request
on_record (Some asked.InitHca) = None
on_record (Some asked.CloseHca) = None
on_record (Some asked.Nop) = None
on_record (Some (asked.OnRecord c)) = Some (request.Command c)
on_record None = None

abbrev pub with_op : Option Op → ℕ → ℕ → Option Request
with_op (Some o) modifier index = on_record (read_command any_index o modifier index)
with_op None modifier index = None

abbrev pub command_in : ℕ → ℕ → ℕ → Option Request
command_in op modifier index = with_op (read_op op) modifier index

-- a write with this PSN; reads have none
abbrev pub with_psn : EngineRequest → ℕ → EngineRequest
with_psn (engine.ReadState n) psn = engine.ReadState n
with_psn (engine.ReadNext n) psn = engine.ReadNext n
with_psn (engine.ReadAll n) psn = engine.ReadAll n
with_psn (engine.Write p s n x) psn = engine.Write p s n psn
with_psn (engine.ReadJoined n c e) psn = engine.ReadJoined n c e

-- a state as a submission takes it, in one byte; a larger one is no state, as 255 is none
abbrev pub code_of : ℕ → ℕ
code_of state = pick (ltb 255 state) 255 state

-- a request on one queue pair, whose state is at most 255
abbrev pub on_one : EngineRequest → ℕ → ℕ → Option Request
on_one e psn state = pick (ltb 255 state) None (Some (request.Engine (with_psn e psn)))

-- a joined read, with the completion queue and the event queue that it found named (02, wish 2)
abbrev pub joined_on : QpNumber → ℕ → ℕ → Option Request
joined_on n cq eq = Some (request.Engine (engine.ReadJoined n (record { 0 = cq }) (record { 0 = eq })))

-- where other requests have PSN and state, a joined read has its names
abbrev pub on_queue_pair : Option EngineAsked → ℕ → ℕ → Option Request
on_queue_pair (Some (engineAsked.OnRecord e)) psn state = on_one e psn state
on_queue_pair (Some (engineAsked.Joined n)) psn state = joined_on n psn state
on_queue_pair None psn state = None

abbrev pub with_number : Option EngineNumber → ℕ → ℕ → ℕ → Option Request
with_number (Some k) index psn state = on_queue_pair (read_engine any_index k index 0 (code_of state)) psn state
with_number None index psn state = None

abbrev pub engine_in : ℕ → ℕ → ℕ → ℕ → Option Request
engine_in number index psn state = with_number (read_number number) index psn state

-- ---- what a served op, or a served number, leads to, step by step

pub op_served : (o : Op) (modifier index : ℕ) (g : Logs) (f : Option CommandAsked) (r : Option Request) → g ≡ any_index
    → f ≡ read_command g o modifier index → r ≡ on_record f → r ≡ on_record (read_command any_index o modifier index)
op_served o modifier index g f r p q e = e ∙ ap on_record (q ∙ ap (λ (h : Logs). read_command h o modifier index) p)

pub number_served : (k : EngineNumber) (index psn state code : ℕ) (g : Logs) (f : Option EngineAsked) (r : Option Request) → code ≡ code_of state
    → g ≡ any_index → f ≡ read_engine g k index 0 code → r ≡ on_queue_pair f psn state
    → r ≡ on_queue_pair (read_engine any_index k index 0 (code_of state)) psn state
number_served k index psn state code g f r t p q e =
    e ∙ ap (λ (x : Option EngineAsked). on_queue_pair x psn state) (q ∙ (λ i. read_engine (p i) k index 0 (t i)))

-- ---- the joined read: number 7 with any index and any names of 32 bits

pub joined_in_lem : (index cq eq : ℕ) → index < 2 ^ 32
    → engine_in 7 index cq eq ≡ Some (request.Engine (engine.ReadJoined (record { 0 = index }) (record { 0 = cq }) (record { 0 = eq })))
unfolding read_number engine_right
joined_in_lem index cq eq h =
    ap (λ (f : Option EngineAsked). on_queue_pair f cq eq) (engine_found any_index number.ReadJoined index 0 (code_of eq) (rw (lt-ltb index (2 ^ 32) h)))
