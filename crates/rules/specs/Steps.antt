-- A step: one burst of one slot's request.
use Rattle.std.specs.Prelude.{List, ℕ, get_or, set, Result, Ok, Err}
use Rattle.words.specs.Choice.{pick}
use Rattle.requests.specs.declared.Request.{Request}
use Rattle.request_table.specs.Records.{writes_of}
use Rattle.burst_table.specs.Bursts.{offset_of}
use Rattle.bursts.specs.Room.{front_of, room_copied}
use Rattle.records.specs.Memory.{Memory, written, read_out}
use Rattle.slots.specs.Slots.{slot, advanced, left_of}
use Rattle.slots.specs.declared.Slot.{Slot}
use Rattle.slots.specs.declared.Status.{Status}
use Rattle.slots.specs.declared.Status.TheVariants.{Free, Running, Finished}
use Rattle.rules.specs.declared.Refusal.{Refusal}
use Rattle.rules.specs.declared.Refusal.TheVariants as cause
use Rattle.rules.specs.World.{World, with_row, with_memory, with_room, status_at, bad_lent, bad_state}

pub record Stepped : Type 0 where
  pub answer : Result ℕ Refusal
  pub world : World

abbrev pub stepped : Result ℕ Refusal → World → Stepped
stepped a w = record { answer = a; world = w }

abbrev pub step_refused : World → Refusal → Stepped
step_refused w c = stepped (Err c) w

-- A write changes its next burst in the record, by the mailbox bytes that stand in the room (01, Bursts, slots and holds).
unfoldable pub memory_moved : World → ℕ → Request → ℕ → Memory
memory_moved w k q m = pick (writes_of q) (written w.hca.logs w.memory q (front_of k q w.room) m) w.memory

-- A read copies its next burst to the offset in the slot's part of the room that the burst has in the record.
unfoldable pub room_moved : World → ℕ → Request → ℕ → List ℕ
room_moved w k q m = pick (writes_of q) w.room (room_copied k (offset_of q m) (read_out w.hca.logs w.memory q m) w.room)

-- One burst more; the last one finishes the request.
unfoldable pub slot_moved : World → ℕ → Slot
slot_moved w k = advanced (get_or w.row k (slot Free))

-- what a step of slot k leaves, in which q runs with m bursts moved
unfoldable pub world_moved : World → ℕ → Request → ℕ → World
world_moved w k q m = with_room (with_memory (with_row w (set w.row k (slot_moved w k))) (memory_moved w k q m)) (room_moved w k q m)

-- There is such a slot, and its request runs (01, Numbers returned, 0x84). The answer has the bursts still to move.
unfoldable pub step_on : World → ℕ → Status → Stepped
step_on w k Free = step_refused w cause.NoRequest
step_on w k (Running m q) = stepped (Ok (left_of (slot_moved w k))) (world_moved w k q m)
step_on w k (Finished m q) = step_refused w cause.NoRequest

-- lent memory and state are tested first, as by every call but reset
unfoldable pub step_of : World → ℕ → Stepped
step_of w k =
    pick (bad_lent w) (step_refused w cause.BadLength)
    (pick (bad_state w) (step_refused w cause.Impossible)
    (step_on w k (status_at k w.row)))
