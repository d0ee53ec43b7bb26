-- The first tests of every exported call but reset, as the code makes them: the device's length, the lengths of store and room, and the
-- state (01, Numbers returned, the first 0x83 and 0x87).
use Rattle.std.specs.Prelude.{◌≡◌, List, ℕ, eqb, length}
use Rattle.words.specs.Choice.{pick}
use Rattle.possible.specs.Possible.{impossible}
use Rattle.rules.specs.World.{World, bad_lent, bad_state}
use Rattle.rules.specs.Laws.Decided.{Passing}
use Rattle.lengths.specs.Lengths.{lengths_wrong}
use Rattle.device_bytes.specs.Decoding.{row_of, hca_of}
use Rattle.device_calls.specs.Calls.{world_of}

-- their number, or 0 where they are passed
unfoldable pub first_number : List ℕ → ℕ → ℕ → ℕ
first_number dev store room =
    pick (eqb (length dev) 288)
    (pick (lengths_wrong (hca_of dev) store room) 0x83 (pick (impossible (hca_of dev) (row_of dev)) 0x87 0))
    0x83

-- the number of the first test that refuses a world, or 0
abbrev pub world_number : World → ℕ
world_number w = pick (bad_lent w) 0x83 (pick (bad_state w) 0x87 0)

-- what is known of a device that passed them, as the code was answered
pub record Tested (dev store room : List ℕ) : Type 0 where
  pub sized : length dev ≡ 288
  pub passing : Passing (world_of dev store room)
