-- The byte rule: the new byte i of a record, from the request, its mailbox bytes, i and the old byte.
use Rattle.std.specs.Prelude.{List, ℕ, ◌+◌, ◌-◌, ◌*◌, ◌/◌, ◌%◌, eqb, ltb, get_or}
use Rattle.words.specs.Choice.{pick, within}
use Rattle.edges.specs.States.{state_code}
use Rattle.edges.specs.Edges.{to_of}
use Rattle.edges.specs.declared.State.{State}
use Rattle.edges.specs.declared.Edge.{Edge}
use Rattle.requests.specs.declared.PsnField.{PsnField}
use Rattle.requests.specs.declared.Owned.{Owned}
use Rattle.requests.specs.declared.Command.{Command}
use Rattle.requests.specs.declared.Command.TheVariants as command
use Rattle.requests.specs.declared.EngineRequest.{EngineRequest}
use Rattle.requests.specs.declared.EngineRequest.TheVariants as engine
use Rattle.requests.specs.declared.Request.{Request}
use Rattle.requests.specs.declared.Request.TheVariants as request
use Rattle.mailboxes.specs.Mailboxes.{stored_of}
use Rattle.burst_table.specs.Bursts.{psn_place}
use Rattle.byte_rule.specs.Taken.{takes_word, word_of, zeroes}

-- The state is set in bits 31:28 of word 00h, the top half of byte 0 (01, Commands).
unfoldable pub with_state : State → ℕ → ℕ → ℕ
with_state s i b = pick (eqb i 0) (state_code s * 16 + b % 16) b

-- A byte of a word that the edge takes comes from the image, and every other stays (01, Commands).
unfoldable pub taken_byte : Edge → List ℕ → ℕ → ℕ → ℕ
taken_byte e image i old = pick (takes_word e (word_of i)) (get_or image i 0) old

-- The state is set after the words are taken, so that the state bits of the image are not read (01, Commands, the table of edges).
unfoldable pub edge_byte : Edge → List ℕ → ℕ → ℕ → ℕ
edge_byte e image i old = pick (zeroes e) 0 (with_state (to_of e) i (taken_byte e image i old))

-- SW2HW stores the image, makes byte 63 the hardware's, and leaves all else 0 (01, The context store).
unfoldable pub sw2hw_byte : Owned → List ℕ → ℕ → ℕ
sw2hw_byte o mail i = pick (ltb i (stored_of o)) (get_or mail i 0) (pick (eqb i 63) 1 0)

-- RESIZE_CQ puts byte 00h of the mailbox at 0Ch, and word 04h at 18h (01, Commands).
unfoldable pub resize_byte : List ℕ → ℕ → ℕ → ℕ
resize_byte mail i old = pick (eqb i 0x0c) (get_or mail 0 0) (pick (within 0x18 0x1b i) (get_or mail (i - 0x14) 0) old)

-- A PSN goes to the last three bytes of its word, high byte first; the first byte stays (01, The context store).
unfoldable pub psn_byte : ℕ → ℕ → ℕ → ℕ → ℕ
psn_byte at psn i old =
    pick (eqb i (at + 1)) (psn / 0x10000 % 0x100)
    (pick (eqb i (at + 2)) (psn / 0x100 % 0x100)
    (pick (eqb i (at + 3)) (psn % 0x100)
    old))

-- Requests 3, 4 and 5 write their PSN and the state (01, Engine requests).
unfoldable pub write_byte : PsnField → ℕ → State → ℕ → ℕ → ℕ
write_byte p psn s i old = with_state s i (psn_byte (psn_place p) psn i old)

-- The commands: HW2SW leaves a record that is all zero, and QUERY_QP leaves the record (01, Commands).
abbrev pub command_byte : Command → List ℕ → ℕ → ℕ → ℕ
command_byte (command.Sw2Hw o) mail i old = sw2hw_byte o mail i
command_byte (command.Hw2Sw o) mail i old = 0
command_byte (command.ResizeCq n) mail i old = resize_byte mail i old
command_byte (command.QueryQp n) mail i old = old
command_byte (command.ModifyQp e n) mail i old = edge_byte e mail i old

-- Reads leave the record (01, Engine requests).
abbrev pub engine_byte : EngineRequest → ℕ → ℕ → ℕ
engine_byte (engine.ReadState n) i old = old
engine_byte (engine.ReadNext n) i old = old
engine_byte (engine.ReadAll n) i old = old
engine_byte (engine.Write p s n psn) i old = write_byte p psn s i old
engine_byte (engine.ReadJoined n c e) i old = old

-- Byte i after the request. An engine request has no mailbox.
abbrev pub byte_of : Request → List ℕ → ℕ → ℕ → ℕ
byte_of (request.Command c) mail i old = command_byte c mail i old
byte_of (request.Engine e) mail i old = engine_byte e i old
