-- The answer of each request, from the bytes of its record that its bursts copied (01, Bursts, slots and holds).
use Rattle.std.specs.Prelude.{List, [], ◌∷◌, ℕ, ◌+◌}
use Rattle.words.specs.Parts.{part}
use Rattle.context.specs.Layout.{size_of}
use Rattle.context.specs.declared.Kind.TheVariants as kind
use Rattle.requests.specs.declared.Command.{Command}
use Rattle.requests.specs.declared.Command.TheVariants as command
use Rattle.requests.specs.declared.EngineRequest.{EngineRequest}
use Rattle.requests.specs.declared.EngineRequest.TheVariants as engine
use Rattle.requests.specs.declared.Request.{Request}
use Rattle.requests.specs.declared.Request.TheVariants as request
use Rattle.checks.specs.Fields.{state_of}

-- Request 1 answers the state code.
unfoldable pub state_answer : List ℕ → List ℕ
state_answer p = state_of p ∷ []

-- Request 2 answers the state code and then next_send_psn, high byte first: the last three bytes of word 6Ch.
unfoldable pub next_answer : List ℕ → List ℕ
next_answer p = state_of p ∷ part 0x6d 3 p

-- Request 6 and QUERY_QP answer the whole record, 256 bytes.
unfoldable pub whole_answer : List ℕ → List ℕ
whole_answer p = part 0 (size_of kind.Qp) p

-- Request 7 answers its three records joined: the queue pair at 0, the completion queue at 256, the event queue at 320 (02, wish 2).
abbrev pub three_size : ℕ
three_size = size_of kind.Qp + (size_of kind.Cq + size_of kind.Eq)

unfoldable pub joined_answer : List ℕ → List ℕ
joined_answer p = part 0 three_size p

-- Every other request is a write, and its answer is empty.
abbrev pub command_answer : Command → List ℕ → List ℕ
command_answer (command.Sw2Hw o) p = []
command_answer (command.Hw2Sw o) p = []
command_answer (command.ResizeCq n) p = []
command_answer (command.QueryQp n) p = whole_answer p
command_answer (command.ModifyQp e n) p = []

-- Engine reads answer from their records, and engine writes are writes too.
abbrev pub engine_answer : EngineRequest → List ℕ → List ℕ
engine_answer (engine.ReadState n) p = state_answer p
engine_answer (engine.ReadNext n) p = next_answer p
engine_answer (engine.ReadAll n) p = whole_answer p
engine_answer (engine.Write w s n psn) p = []
engine_answer (engine.ReadJoined n c e) p = joined_answer p

-- The answer of every request.
abbrev pub answer_of : Request → List ℕ → List ℕ
answer_of (request.Command c) p = command_answer c p
answer_of (request.Engine e) p = engine_answer e p

-- How many bytes each answer has.
abbrev pub command_answer_size : Command → ℕ
command_answer_size (command.Sw2Hw o) = 0
command_answer_size (command.Hw2Sw o) = 0
command_answer_size (command.ResizeCq n) = 0
command_answer_size (command.QueryQp n) = size_of kind.Qp
command_answer_size (command.ModifyQp e n) = 0

abbrev pub engine_answer_size : EngineRequest → ℕ
engine_answer_size (engine.ReadState n) = 1
engine_answer_size (engine.ReadNext n) = 4
engine_answer_size (engine.ReadAll n) = size_of kind.Qp
engine_answer_size (engine.Write w s n psn) = 0
engine_answer_size (engine.ReadJoined n c e) = three_size

abbrev pub answer_size : Request → ℕ
answer_size (request.Command c) = command_answer_size c
answer_size (request.Engine e) = engine_answer_size e
