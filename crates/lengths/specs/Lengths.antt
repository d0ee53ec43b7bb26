-- The first rows of the table of refusals, as the operations test them, and what a world that passed them is like.
use Rattle.std.specs.Prelude.{Bool, not, ℕ, eqb, ltb}
use Rattle.words.specs.Choice.{both, either}
use Rattle.burst_table.specs.Sizes.{room_size}
use Rattle.possible.specs.declared.Hca.{Hca}

-- of a row of eight slots: the room has their parts and, while open, the store is as long as the one that INIT_HCA was lent
-- (01, Numbers returned, the first 0x83)
unfoldable pub lengths_wrong : Hca → ℕ → ℕ → Bool
lengths_wrong h store room = either (ltb room room_size) (both h.«open» (not (eqb store h.store_len)))
