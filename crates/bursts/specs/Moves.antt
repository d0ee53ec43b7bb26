-- One burst, as it leaves the store and the room.
use Rattle.std.specs.Prelude.{List, ℕ}
use Rattle.words.specs.Parts.{part, splice}
use Rattle.words.specs.Maps.{map_from}
use Rattle.requests.specs.declared.Request.{Request}
use Rattle.burst_table.specs.Sizes.{burst_size}
use Rattle.byte_rule.specs.Bytes.{byte_of}

-- a part of a record that starts at offset first, after the write
unfoldable pub written_part : Request → List ℕ → ℕ → List ℕ → List ℕ
written_part q mail first p = map_from (byte_of q mail) first p

-- a write changes the burst that stands at `at` of the store and at offset `first` of its record, and no other byte of the store
-- (01, Bursts, slots and holds)
unfoldable pub write_at : Request → List ℕ → ℕ → ℕ → List ℕ → List ℕ
write_at q mail at first store = splice at (written_part q mail first (part at burst_size store)) store

-- a read copies the burst at `at` of the store to `to` of the room, and changes no other byte of the room
unfoldable pub copy_at : ℕ → List ℕ → ℕ → List ℕ → List ℕ
copy_at at store to room = splice to (part at burst_size store) room
