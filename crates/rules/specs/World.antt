-- All that a call remembers and is lent, and the first rows of the table of refusals.
use Rattle.std.specs.Prelude.{Bool, false, not, List, ℕ, eqb, ltb, length, get_or}
use Rattle.words.specs.Choice.{both, either}
use Rattle.context.specs.declared.Logs.{Logs}
use Rattle.burst_table.specs.Sizes.{slot_count, room_size}
use Rattle.records.specs.Memory.{Memory, memory}
use Rattle.slots.specs.Slots.{slot}
use Rattle.slots.specs.declared.Slot.{Slot}
use Rattle.slots.specs.declared.Status.{Status}
use Rattle.slots.specs.declared.Status.TheVariants.{Free}
use Rattle.possible.specs.Possible.{impossible}
use Rattle.possible.specs.declared.Hca.{Hca}

-- what is handed in and handed back (the state and the row), and what is lent (the memory of the records, and the room)
pub record World : Type 0 where
  pub hca : Hca
  pub row : List Slot
  pub memory : Memory
  pub room : List ℕ

abbrev pub world : Hca → List Slot → List ℕ → List ℕ → World
world h row store room = record { hca = h; row = row; memory = memory store; room = room }

-- a world with one part changed: the others are not named
abbrev pub with_hca : World → Hca → World
with_hca w h = record { hca = h; row = w.row; memory = w.memory; room = w.room }

abbrev pub with_row : World → List Slot → World
with_row w row = record { hca = w.hca; row = row; memory = w.memory; room = w.room }

abbrev pub with_memory : World → Memory → World
with_memory w m = record { hca = w.hca; row = w.row; memory = m; room = w.room }

abbrev pub with_room : World → List ℕ → World
with_room w room = record { hca = w.hca; row = w.row; memory = w.memory; room = room }

abbrev pub hca_of : Bool → Logs → ℕ → Hca
hca_of o g n = record { «open» = o; logs = g; store_len = n }

-- the state, closed: counts and length stay in it (docs/DECISIONS.md, 8)
abbrev pub shut : Hca → Hca
shut h = hca_of false h.logs h.store_len

-- how long the lent store is
abbrev pub store_length : World → ℕ
store_length w = length w.memory.store

-- the slot with a number; no slot has a number past the row's end
unfoldable pub status_at : ℕ → List Slot → Status
status_at k row = (get_or row k (slot Free)).status

-- The row has eight slots and the room at least their eight parts: all that reset tests (01, Numbers returned, the first 0x83).
unfoldable pub bad_row : World → Bool
bad_row w = either (not (eqb (length w.row) slot_count)) (ltb (length w.room) room_size)

-- While open, the store is as long as the one that INIT_HCA was lent (the same row of the table).
unfoldable pub bad_store : World → Bool
bad_store w = both w.hca.«open» (not (eqb (store_length w) w.hca.store_len))

-- what every call but reset tests of the memory lent
unfoldable pub bad_lent : World → Bool
bad_lent w = either (bad_row w) (bad_store w)

-- The state handed in is possible: every call but reset tests it next (01, Numbers returned, 0x87).
unfoldable pub bad_state : World → Bool
bad_state w = impossible w.hca w.row
