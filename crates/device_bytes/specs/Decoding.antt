-- DECODING: the state and the row that the C interface's device has, 288 bytes that the caller lends; every number little-endian.
--   header  0 open (1, else 0)   1 to 4 the logarithms of QPs, CQs, EQs, MPTs   8 to 15 the store's length
--   slot k, at 32 + 32 k
--           0 status (0 free, 1 running, 2 finished)   1 kind (0 command, 1 engine request)   2 bursts moved   3 op_modifier
--           4 to 5 op or request number   8 to 11 index   12 to 15 and 16 to 19 the names of a joined read   20 to 23 PSN   24 state
-- Any bytes are read. Those that no slot has are read as a slot that no state can have, and those of another length as a row without
-- slots, so that they get 0x87 and 0x83 by the rules' own tests.
use Rattle.std.specs.Prelude.{Bool, List, [], ℕ, zero, suc, ◌+◌, ◌*◌, ◌^◌, eqb, ltb, length, get_or, set, replicate, Option, Some, None}
use Rattle.words.specs.Choice.{pick}
use Rattle.words.specs.Parts.{part}
use Rattle.words.specs.Words.{le32}
use Rattle.requests.specs.declared.EngineRequest.TheVariants as engine
use Rattle.requests.specs.declared.Request.TheVariants as request
use Rattle.requests.specs.declared.Request.{Request}
use Rattle.engines.specs.Engines.{read_number, read_engine}
use Rattle.engines.specs.declared.EngineAsked.{EngineAsked}
use Rattle.engines.specs.declared.EngineNumber.{EngineNumber}
use Rattle.engines.specs.declared.EngineAsked.TheVariants as asked
use Rattle.slot_requests.specs.Requests.{any_index, command_in}
use Rattle.slots.specs.Slots.{slot}
use Rattle.slots.specs.declared.Slot.{Slot}
use Rattle.slots.specs.declared.Status.{Status}
use Rattle.slots.specs.declared.Status.TheVariants.{Free, Running, Finished}
use Rattle.rows.specs.Rows.{empty_row}
use Rattle.possible.specs.declared.Hca.{Hca}

abbrev pub device_size : ℕ
device_size = 288

-- where slot k starts
abbrev pub slot_place : ℕ → ℕ
slot_place k = 32 + k * 32

-- ---- the request of a slot, read as its submission reads it; its index is judged by 0x87's own test alone (01, Numbers returned)

-- an engine request as a slot holds it: a joined read has the names that its submission found (02, wish 2)
abbrev pub engine_held : ℕ → ℕ → Option EngineAsked → Option Request
engine_held cq eq (Some (asked.OnRecord e)) = Some (request.Engine e)
engine_held cq eq (Some (asked.Joined n)) = Some (request.Engine (engine.ReadJoined n (record { 0 = cq }) (record { 0 = eq })))
engine_held cq eq None = None

abbrev pub number_held : ℕ → ℕ → ℕ → ℕ → ℕ → Option EngineNumber → Option Request
number_held index cq eq psn state (Some k) = engine_held cq eq (read_engine any_index k index psn state)
number_held index cq eq psn state None = None

abbrev pub op_field : List ℕ → ℕ
op_field b = get_or b 4 0 + 256 * get_or b 5 0

unfoldable pub request_in : List ℕ → Option Request
request_in b =
    pick (eqb (get_or b 1 0) 0) (command_in (op_field b) (get_or b 3 0) (le32 8 b))
    (pick (eqb (get_or b 1 0) 1) (number_held (le32 8 b) (le32 12 b) (le32 16 b) (le32 20 b) (get_or b 24 0) (read_number (op_field b)))
    None)

-- ---- a slot

-- A finished request that has moved nothing: no state has it, since every request moves a burst.
abbrev pub broken : Status
broken = Finished 0 (request.Engine (engine.ReadState (record { 0 = 0 })))

abbrev pub status_held : ℕ → ℕ → Option Request → Status
status_held code m (Some q) = pick (eqb code 1) (Running m q) (pick (eqb code 2) (Finished m q) broken)
status_held code m None = broken

-- a free slot is known by its first byte alone
unfoldable pub status_of : List ℕ → Status
status_of b = pick (eqb (get_or b 0 0) 0) Free (status_held (get_or b 0 0) (get_or b 2 0) (request_in b))

unfoldable pub slot_at : ℕ → List ℕ → Slot
slot_at k dev = slot (status_of (part (slot_place k) 32 dev))

-- ---- the row and the state

-- eight slots, the first n as the bytes have them
unfoldable pub slots_of : ℕ → List ℕ → List Slot
slots_of zero dev = empty_row
slots_of (suc n) dev = set (slots_of n dev) n (slot_at n dev)

-- A device that is neither open nor closed has no possible row.
unfoldable pub row_of : List ℕ → List Slot
row_of dev = pick (eqb (length dev) device_size) (pick (ltb 1 (get_or dev 0 0)) (replicate 8 (slot broken)) (slots_of 8 dev)) []

unfoldable pub hca_of : List ℕ → Hca
hca_of dev =
    record {
      «open» = eqb (get_or dev 0 0) 1;
      logs = record { qps = get_or dev 1 0; cqs = get_or dev 2 0; eqs = get_or dev 3 0; mpts = get_or dev 4 0 };
      store_len = le32 8 dev + le32 12 dev * 2 ^ 32;
    }
