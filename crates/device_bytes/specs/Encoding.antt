-- ENCODING: the bytes that the C interface writes into the device. What no field uses is 0.
use Rattle.std.specs.Prelude.{List, [], ◌∷◌, ◌++◌, ℕ, ◌+◌, ◌/◌, ◌%◌, ◌^◌, replicate, set}
use Rattle.words.specs.Parts.{splice}
use Rattle.words.specs.Words.{le_bytes}
use Rattle.hcr.specs.Register.{bit}
use Rattle.context.specs.declared.Logs.{Logs}
use Rattle.edges.specs.States.{state_code}
use Rattle.requests.specs.declared.Command.{Command}
use Rattle.requests.specs.declared.Command.TheVariants as command
use Rattle.requests.specs.declared.EngineRequest.{EngineRequest}
use Rattle.requests.specs.declared.EngineRequest.TheVariants as engine
use Rattle.requests.specs.declared.Request.{Request}
use Rattle.requests.specs.declared.Request.TheVariants as request
use Rattle.commands.specs.Commands.{edge_modifier}
use Rattle.request_codes.specs.Numbers.{command_op, engine_number, index_of}
use Rattle.slots.specs.declared.Slot.{Slot}
use Rattle.slots.specs.declared.Status.{Status}
use Rattle.slots.specs.declared.Status.TheVariants.{Free, Running, Finished}
use Rattle.possible.specs.declared.Hca.{Hca}
use Rattle.device_bytes.specs.Decoding.{slot_place}

-- ---- what a request has beside its number and its index

abbrev pub command_modifier : Command → ℕ
command_modifier (command.Sw2Hw o) = 0
command_modifier (command.Hw2Sw o) = 0
command_modifier (command.ResizeCq n) = 0
command_modifier (command.QueryQp n) = 0
command_modifier (command.ModifyQp e n) = edge_modifier e

abbrev pub named_cq : EngineRequest → ℕ
named_cq (engine.ReadState n) = 0
named_cq (engine.ReadNext n) = 0
named_cq (engine.ReadAll n) = 0
named_cq (engine.Write p s n x) = 0
named_cq (engine.ReadJoined n c e) = c.0

abbrev pub named_eq : EngineRequest → ℕ
named_eq (engine.ReadState n) = 0
named_eq (engine.ReadNext n) = 0
named_eq (engine.ReadAll n) = 0
named_eq (engine.Write p s n x) = 0
named_eq (engine.ReadJoined n c e) = e.0

abbrev pub psn_in : EngineRequest → ℕ
psn_in (engine.ReadState n) = 0
psn_in (engine.ReadNext n) = 0
psn_in (engine.ReadAll n) = 0
psn_in (engine.Write p s n x) = x
psn_in (engine.ReadJoined n c e) = 0

abbrev pub state_in : EngineRequest → ℕ
state_in (engine.ReadState n) = 0
state_in (engine.ReadNext n) = 0
state_in (engine.ReadAll n) = 0
state_in (engine.Write p s n x) = state_code s
state_in (engine.ReadJoined n c e) = 0

-- ---- a slot

-- status, kind, bursts moved, op_modifier, op or number, index, the two names, PSN, state
unfoldable pub slot_bytes : ℕ → ℕ → ℕ → ℕ → ℕ → ℕ → ℕ → ℕ → ℕ → ℕ → List ℕ
slot_bytes code kind m modifier op index cq eq psn state =
    code ∷ kind ∷ m ∷ modifier ∷ op ∷ 0 ∷ 0 ∷ 0
    ∷ (le_bytes 4 index ++ (le_bytes 4 cq ++ (le_bytes 4 eq ++ (le_bytes 4 psn ++ (state ∷ replicate 7 0)))))

abbrev pub request_bytes : ℕ → ℕ → Request → List ℕ
request_bytes code m (request.Command c) =
    slot_bytes code 0 m (command_modifier c) (command_op c) (index_of (request.Command c)) 0 0 0 0
request_bytes code m (request.Engine e) =
    slot_bytes code 1 m 0 (engine_number e) (index_of (request.Engine e)) (named_cq e) (named_eq e) (psn_in e) (state_in e)

abbrev pub status_bytes : Status → List ℕ
status_bytes Free = replicate 32 0
status_bytes (Running m q) = request_bytes 1 m q
status_bytes (Finished m q) = request_bytes 2 m q

-- what a step changes of a slot: its status, and the bursts moved
abbrev pub status_code : Status → ℕ
status_code Free = 0
status_code (Running m q) = 1
status_code (Finished m q) = 2

abbrev pub moved_in : Status → ℕ
moved_in Free = 0
moved_in (Running m q) = m
moved_in (Finished m q) = m

-- ---- the header

-- open, the logarithms, the low and the high half of the store's length
unfoldable pub header_bytes : ℕ → Logs → ℕ → ℕ → List ℕ
header_bytes o g low high =
    o ∷ g.qps ∷ g.cqs ∷ g.eqs ∷ g.mpts ∷ 0 ∷ 0 ∷ 0 ∷ (le_bytes 4 low ++ (le_bytes 4 high ++ replicate 16 0))

abbrev pub hca_bytes : Hca → List ℕ
hca_bytes h = header_bytes (bit h.«open») h.logs (h.store_len % 2 ^ 32) (h.store_len / 2 ^ 32)

-- ---- the whole device

unfoldable pub row_bytes : List Slot → List ℕ
row_bytes [] = []
row_bytes (s ∷ ss) = status_bytes s.status ++ row_bytes ss

unfoldable pub device_bytes : Hca → List Slot → List ℕ
device_bytes h row = hca_bytes h ++ row_bytes row

-- ---- the device with a part of it written anew

-- slot k, all 32 bytes
unfoldable pub put_slot : ℕ → Slot → List ℕ → List ℕ
put_slot k s dev = splice (slot_place k) (status_bytes s.status) dev

-- slot k, its status and its bursts moved
unfoldable pub put_moved : ℕ → Slot → List ℕ → List ℕ
put_moved k s dev = set (set dev (slot_place k) (status_code s.status)) (slot_place k + 2) (moved_in s.status)

-- the header, all 32 bytes
unfoldable pub put_header : Hca → List ℕ → List ℕ
put_header h dev = splice 0 (hca_bytes h) dev
