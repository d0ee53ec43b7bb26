-- The five calls as one type, what each answers and leaves, and what a call and its answer say of its request.
use Rattle.std.specs.Prelude.{Bool, true, false, List, [], ℕ, Option, Some, None, Result, Ok, Err}
use Rattle.words.specs.Choice.{pick}
use Rattle.words.specs.Parts.{part}
use Rattle.hcr.specs.Register.{read_of}
use Rattle.hcr.specs.declared.HcrCommand.{HcrCommand}
use Rattle.hcr.specs.declared.ReadError.{ReadError}
use Rattle.hcr.specs.declared.ReadError.TheVariants as readError
use Rattle.context.specs.declared.Logs.{Logs}
use Rattle.commands.specs.Commands.{read_op, read_command}
use Rattle.commands.specs.declared.CommandAsked.{CommandAsked}
use Rattle.commands.specs.declared.Op.{Op}
use Rattle.commands.specs.declared.CommandAsked.TheVariants as asked
use Rattle.engines.specs.Engines.{read_number, read_engine}
use Rattle.engines.specs.declared.EngineAsked.{EngineAsked}
use Rattle.engines.specs.declared.EngineNumber.{EngineNumber}
use Rattle.engines.specs.declared.EngineAsked.TheVariants as engineAsked
use Rattle.rules.specs.Numbers.{refusal_number, for_state, collect_values}
use Rattle.rules.specs.World.{World}
use Rattle.rules.specs.Commands.{submit_command}
use Rattle.rules.specs.Engines.{submit_engine}
use Rattle.rules.specs.Steps.{step_of}
use Rattle.rules.specs.Collections.{collect_of}
use Rattle.rules.specs.Resets.{reset_of}
use Rattle.rules.specs.Names.{Arguments, command as commandArguments, read_joined, engine_arguments, needed}
use Rattle.rules.specs.Book.{Fed, on_record, close_hca, nop}
use Rattle.rules.specs.declared.Refusal.{Refusal}
use Rattle.rules.specs.declared.Submission.{Submission}
use Rattle.rules.specs.declared.Submission.TheVariants as submit

-- a call, with its own input: an HCR and a mailbox; an engine request's number, index, PSN and state; a slot; a slot and a
-- buffer; nothing
pub data Call : Type 0 where
  command : List ℕ → List ℕ → Call
  engine_request : ℕ → ℕ → ℕ → ℕ → Call
  step : ℕ → Call
  collection : ℕ → List ℕ → Call
  resetting : Call

-- its answer; a collection's with what the buffer holds afterwards
pub data Answer : Type 0 where
  submitted : Result Submission Refusal → Answer
  stepped : Result ℕ Refusal → Answer
  collected : Result ℕ Refusal → List ℕ → Answer
  reset_done : Result (Unit {0}) Refusal → Answer

abbrev pub answer_to : World → Call → Answer
answer_to w (command bytes mail) = submitted (submit_command w bytes mail).answer
answer_to w (engine_request n index psn state) = submitted (submit_engine w n index psn state).answer
answer_to w (step k) = stepped (step_of w k).answer
answer_to w (collection k out) = collected (collect_of w k out).answer (collect_of w k out).out
answer_to w resetting = reset_done (reset_of w).answer

abbrev pub world_after : World → Call → World
world_after w (command bytes mail) = (submit_command w bytes mail).world
world_after w (engine_request n index psn state) = (submit_engine w n index psn state).world
world_after w (step k) = (step_of w k).world
world_after w (collection k out) = (collect_of w k out).world
world_after w resetting = (reset_of w).world

-- ---- what a submission asks for: from its bytes or numbers, and the counts of the initialisation

pub data Asked : Type 0 where
  asks_init : Asked
  asks_close : Asked
  asks_nop : Asked
  asks_request : Arguments → Asked
  asks_nothing : Asked

abbrev pub found_asked : Option CommandAsked → Asked
found_asked (Some asked.InitHca) = asks_init
found_asked (Some asked.CloseHca) = asks_close
found_asked (Some asked.Nop) = asks_nop
found_asked (Some (asked.OnRecord c)) = asks_request (commandArguments c)
found_asked None = asks_nothing

abbrev pub op_asked : Logs → HcrCommand → Option Op → Asked
op_asked g c (Some o) = found_asked (read_command g o c.op_modifier c.in_modifier)
op_asked g c None = asks_nothing

abbrev pub register_asked : Logs → Result HcrCommand ReadError → Asked
register_asked g (Err readError.Short) = asks_nothing
register_asked g (Err readError.Malformed) = asks_nothing
register_asked g (Ok c) = op_asked g c (read_op c.op)

abbrev pub command_asked : Logs → List ℕ → Asked
command_asked g bytes = register_asked g (read_of bytes)

abbrev pub engine_found_asked : Option EngineAsked → Asked
engine_found_asked (Some (engineAsked.OnRecord e)) = asks_request (engine_arguments e)
engine_found_asked (Some (engineAsked.Joined n)) = asks_request (read_joined n)
engine_found_asked None = asks_nothing

abbrev pub number_asked : Logs → ℕ → ℕ → ℕ → Option EngineNumber → Asked
number_asked g index psn state (Some n) = engine_found_asked (read_engine g n index psn state)
number_asked g index psn state None = asks_nothing

abbrev pub engine_asked : Logs → ℕ → ℕ → ℕ → ℕ → Asked
engine_asked g n index psn state = number_asked g index psn state (read_number n)

-- ---- what a call and its answer say of a request, for the journal

pub data Note : Type 0 where
  -- nothing: a step, INIT_HCA, a reset, or a refusal that is not because of a record's state
  nothing : Note
  -- refused because of its record's state, with this number
  refused : Fed → ℕ → Note
  -- accepted into this slot
  accepted : Fed → ℕ → Note
  -- accepted and finished at once, with this answer
  finished : Fed → List ℕ → Note
  -- this slot was collected, with this answer
  emptied : ℕ → List ℕ → Note

-- what the book is fed: the arguments, and the needed front of the mailbox as submitted (01, The plain book of demand 3)
abbrev pub fed : Arguments → List ℕ → Fed
fed a mail = on_record a (part 0 (needed a) mail)

-- A request is accepted when its submission answers 0; a refusal is noted where its cause is the record's state (01, the same section).
abbrev pub request_note : Arguments → List ℕ → Result Submission Refusal → Note
request_note q mail (Ok submit.Done) = nothing
request_note q mail (Ok (submit.Accepted k)) = accepted (fed q mail) k
request_note q mail (Err c) = pick (for_state c) (refused (fed q mail) (refusal_number c)) nothing

-- CLOSE_HCA and NOP are finished at once, with an empty answer.
abbrev pub once_note : Fed → Result Submission Refusal → Note
once_note f (Ok submit.Done) = finished f []
once_note f (Ok (submit.Accepted k)) = nothing
once_note f (Err c) = nothing

abbrev pub submit_note : List ℕ → Asked → Result Submission Refusal → Note
submit_note mail asks_init a = nothing
submit_note mail asks_close a = once_note close_hca a
submit_note mail asks_nop a = once_note nop a
submit_note mail (asks_request q) a = request_note q mail a
submit_note mail asks_nothing a = nothing

-- Its answer is what collecting it wrote: that many bytes at the front of the buffer.
abbrev pub collect_note : ℕ → List ℕ → Result ℕ Refusal → Note
collect_note k out (Ok n) = emptied k (collect_values (Ok n) out)
collect_note k out (Err c) = nothing

-- by call and answer; g gives the counts of the initialisation
abbrev pub note_of : Logs → Call → Answer → Note
note_of g (command bytes mail) (submitted a) = submit_note mail (command_asked g bytes) a
note_of g (command bytes mail) (stepped a) = nothing
note_of g (command bytes mail) (collected a out) = nothing
note_of g (command bytes mail) (reset_done a) = nothing
note_of g (engine_request n index psn state) (submitted a) = submit_note [] (engine_asked g n index psn state) a
note_of g (engine_request n index psn state) (stepped a) = nothing
note_of g (engine_request n index psn state) (collected a out) = nothing
note_of g (engine_request n index psn state) (reset_done a) = nothing
note_of g (step k) a = nothing
note_of g (collection k buffer) (submitted a) = nothing
note_of g (collection k buffer) (stepped a) = nothing
note_of g (collection k buffer) (collected a out) = collect_note k out a
note_of g (collection k buffer) (reset_done a) = nothing
note_of g resetting a = nothing

-- ---- where a list of calls begins, and where it ends

abbrev pub is_done : Result Submission Refusal → Bool
is_done (Ok submit.Done) = true
is_done (Ok (submit.Accepted k)) = false
is_done (Err c) = false

abbrev pub is_init : Asked → Bool
is_init asks_init = true
is_init asks_close = false
is_init asks_nop = false
is_init (asks_request q) = false
is_init asks_nothing = false

-- An initialisation is an INIT_HCA that answers 0 (01, The plain book of demand 3).
unfoldable pub initialises : World → List ℕ → List ℕ → Bool
initialises w bytes mail = pick (is_init (command_asked w.hca.logs bytes)) (is_done (submit_command w bytes mail).answer) false

-- a call that begins a list of calls: an initialisation, today
abbrev pub begins : World → Call → Bool
begins w (command bytes mail) = initialises w bytes mail
begins w (engine_request n index psn state) = false
begins w (step k) = false
begins w (collection k out) = false
begins w resetting = false

-- a list of calls ends before a call that begins the next, or before a reset that answers 0
abbrev pub reset_ends : Result (Unit {0}) Refusal → Bool
reset_ends (Ok tt) = true
reset_ends (Err c) = false

abbrev pub stops : World → Call → Bool
stops w (command bytes mail) = initialises w bytes mail
stops w (engine_request n index psn state) = false
stops w (step k) = false
stops w (collection k out) = false
stops w resetting = reset_ends (reset_of w).answer
