-- The sizes of a burst and of the working room.
use Rattle.std.specs.Prelude.{ℕ, ◌*◌}

-- the bytes that a step moves (01, Bursts, slots and holds)
abbrev pub burst_size : ℕ
burst_size = 16

-- the slots of the row
abbrev pub slot_count : ℕ
slot_count = 8

-- the bytes of one slot's part of the room: a joined answer has a queue pair's 256, and the 64 of a completion queue and of an event
-- queue (02, wish 2)
abbrev pub slot_room : ℕ
slot_room = 384

-- the bytes of the room: every slot has a part
abbrev pub room_size : ℕ
room_size = slot_count * slot_room

-- where slot k's part starts: the parts follow one another from byte 0
abbrev pub slot_start : ℕ → ℕ
slot_start k = k * slot_room
