-- What a fresh device is lent: all of the store that is there, and of row and room what each call asks for (01, Bursts, slots and holds;
-- 02, wish 2).
use Rattle.std.specs.Prelude.{ℕ}
use Rattle.burst_table.specs.Sizes.{slot_count, room_size}
use Rattle.script_memory.specs.declared.Lent.{Lent}

abbrev pub fresh_of : ℕ → Lent
fresh_of there = record { row = slot_count; room = room_size; store = there; there = there }
