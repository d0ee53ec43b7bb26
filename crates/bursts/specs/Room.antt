-- The room: eight parts, one for each slot, and what a submission and a read burst leave in them.
use Rattle.std.specs.Prelude.{List, ℕ, ◌+◌}
use Rattle.words.specs.Parts.{part, splice}
use Rattle.requests.specs.declared.Request.{Request}
use Rattle.mailboxes.specs.Mailboxes.{need_of}
use Rattle.burst_table.specs.Sizes.{slot_room, slot_start}

-- slot k's part of the room (01, Bursts, slots and holds; 02, wish 2: 384 bytes for each slot)
unfoldable pub room_of : ℕ → List ℕ → List ℕ
room_of k room = part (slot_start k) slot_room room

-- its front: the mailbox bytes of the slot's request
unfoldable pub front_of : ℕ → Request → List ℕ → List ℕ
front_of k q room = part (slot_start k) (need_of q) room

-- a submission puts the needed mailbox bytes at the front of the slot's part
unfoldable pub room_filled : ℕ → List ℕ → List ℕ → List ℕ
room_filled k ys room = splice (slot_start k) ys room

-- a read burst goes to the offset in the slot's part that it has in the records
unfoldable pub room_copied : ℕ → ℕ → List ℕ → List ℕ → List ℕ
room_copied k at ys room = splice (slot_start k + at) ys room
