-- What the writers of a slot leave, in the definitions' terms.
use Rattle.std.specs.Prelude.{◌≡◌, List, ℕ, ◌+◌, ◌*◌, ◌<◌, replicate, set}
use Rattle.std.proofs.Common.{◌∙◌, ap, lit<}
use Rattle.words.specs.Parts.{splice}
use Rattle.words.specs.Words.{le_bytes}
use Rattle.edges.specs.declared.Edge.{Edge}
use Rattle.edges.specs.declared.Edge.TheVariants.{ResetToInit, InitToInit, InitToRtr, RtrToRts, RtsToRts, SqeToRts}
use Rattle.edges.specs.declared.Edge.TheVariants.{RtsToSqd, SqdToSqd, SqdToRts, ToErr, ToReset}
use Rattle.requests.specs.declared.Owned.{Owned}
use Rattle.requests.specs.declared.Owned.TheVariants as owned
use Rattle.requests.specs.declared.Command.{Command}
use Rattle.requests.specs.declared.Command.TheVariants as command
use Rattle.requests.specs.declared.PsnField.{PsnField}
use Rattle.requests.specs.declared.PsnField.TheVariants.{NextSend, LastAcked, Expected}
use Rattle.requests.specs.declared.EngineRequest.{EngineRequest}
use Rattle.requests.specs.declared.EngineRequest.TheVariants as engine
use Rattle.requests.specs.declared.Request.TheVariants as request
use Rattle.request_codes.specs.Numbers.{edge_op, sw2hw_op, hw2sw_op, command_op, write_number, engine_number, index_of}
use Rattle.slots.specs.declared.Slot.{Slot}
use Rattle.device_bytes.specs.Encoding.{command_modifier, named_cq, named_eq, psn_in, state_in, slot_bytes, status_bytes, put_slot}

-- the two sorts of a request, each by itself
abbrev pub command_bytes : ℕ → ℕ → Command → List ℕ
command_bytes code m c = slot_bytes code 0 m (command_modifier c) (command_op c) (index_of (request.Command c)) 0 0 0 0

abbrev pub engine_bytes : ℕ → ℕ → EngineRequest → List ℕ
engine_bytes code m e =
    slot_bytes code 1 m 0 (engine_number e) (index_of (request.Engine e)) (named_cq e) (named_eq e) (psn_in e) (state_in e)

-- ---- a number of a request takes one byte

edge_byte_lem : (e : Edge) → edge_op e < 256
edge_byte_lem ResetToInit = lit< tt
edge_byte_lem InitToInit = lit< tt
edge_byte_lem InitToRtr = lit< tt
edge_byte_lem RtrToRts = lit< tt
edge_byte_lem RtsToRts = lit< tt
edge_byte_lem SqeToRts = lit< tt
edge_byte_lem RtsToSqd = lit< tt
edge_byte_lem SqdToSqd = lit< tt
edge_byte_lem SqdToRts = lit< tt
edge_byte_lem ToErr = lit< tt
edge_byte_lem ToReset = lit< tt

sw2hw_byte_lem : (o : Owned) → sw2hw_op o < 256
sw2hw_byte_lem (owned.Mpt n) = lit< tt
sw2hw_byte_lem (owned.Eq n) = lit< tt
sw2hw_byte_lem (owned.Cq n) = lit< tt

hw2sw_byte : (o : Owned) → hw2sw_op o < 256
hw2sw_byte (owned.Mpt n) = lit< tt
hw2sw_byte (owned.Eq n) = lit< tt
hw2sw_byte (owned.Cq n) = lit< tt

command_byte_lem : (c : Command) → command_op c < 256
command_byte_lem (command.Sw2Hw o) = sw2hw_byte_lem o
command_byte_lem (command.Hw2Sw o) = hw2sw_byte o
command_byte_lem (command.ResizeCq n) = lit< tt
command_byte_lem (command.QueryQp n) = lit< tt
command_byte_lem (command.ModifyQp e n) = edge_byte_lem e

write_byte_lem : (p : PsnField) → write_number p < 256
write_byte_lem NextSend = lit< tt
write_byte_lem LastAcked = lit< tt
write_byte_lem Expected = lit< tt

engine_byte_lem : (e : EngineRequest) → engine_number e < 256
engine_byte_lem (engine.ReadState n) = lit< tt
engine_byte_lem (engine.ReadNext n) = lit< tt
engine_byte_lem (engine.ReadAll n) = lit< tt
engine_byte_lem (engine.Write p s n x) = write_byte_lem p
engine_byte_lem (engine.ReadJoined n c e) = lit< tt

-- as the code has it: the number that a call answered
pub op_small : (c : Command) (r : ℕ) → r ≡ command_op c → r < 256
op_small c r e = rw e (command_byte_lem c)

pub number_small : (x : EngineRequest) (r : ℕ) → r ≡ engine_number x → r < 256
number_small x r e = rw e (engine_byte_lem x)

-- ---- six bytes and four words written into 32 bytes of 0

pub slot_bytes_made : (code kind m modifier op index cq eq psn state : ℕ) (a b c d : List ℕ)
    → a ≡ splice 8 (le_bytes 4 index) (set (set (set (set (set (set (replicate 32 0) 0 code) 1 kind) 2 m) 3 modifier) 4 op) 24 state)
    → b ≡ splice 12 (le_bytes 4 cq) a → c ≡ splice 16 (le_bytes 4 eq) b → d ≡ splice 20 (le_bytes 4 psn) c
    → d ≡ slot_bytes code kind m modifier op index cq eq psn state
unfolding slot_bytes splice le_bytes
slot_bytes_made code kind m modifier op index cq eq psn state a b c d p q r s = rw (s, r, q, p)

pub put_made : (k : ℕ) (s : Slot) (bytes dev out : List ℕ) → bytes ≡ status_bytes s.status → out ≡ splice (32 + k * 32) bytes dev
    → out ≡ put_slot k s dev
unfolding put_slot
put_made k s bytes dev out e f = f ∙ ap (λ (b : List ℕ). splice (32 + k * 32) b dev) e
