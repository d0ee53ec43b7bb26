-- What a reset hands back, as the code makes it.
use Rattle.std.specs.Prelude.{◌≡◌, List, ℕ, ◌≤◌, ◌<◌, length, Ok, Err}
use borrow.Author.Tests.{eq-eqb, lt-ltb, le-ltb}
use Rattle.burst_table.specs.Sizes.{slot_count, room_size}
use Rattle.slots.specs.declared.Slot.{Slot}
use Rattle.rows.specs.Rows.{empty_row}
use Rattle.possible.specs.declared.Hca.{Hca}
use Rattle.rules.specs.declared.Refusal.TheVariants as cause
use Rattle.rules.specs.World.{world, shut, bad_row}
use Rattle.rules.specs.Resets.{resetted, reset_of}

module _ (h : Hca) (row : List Slot) (store room : List ℕ) (n : length row ≡ slot_count) where
  -- the room is too short: nothing changes
  pub reset_short : length room < room_size
      → resetted (Err cause.BadLength) (world h row store room) ≡ reset_of (world h row store room)
  unfolding reset_of bad_row
  reset_short l = rw (eq-eqb (length row) slot_count n, lt-ltb (length room) room_size l)

  pub reset_done_lem : (empty : List Slot) → room_size ≤ length room → empty ≡ empty_row
      → resetted (Ok tt) (world (shut h) empty store room) ≡ reset_of (world h row store room)
  unfolding reset_of bad_row
  reset_done_lem empty l e = rw (eq-eqb (length row) slot_count n, le-ltb (length room) room_size l, e)
