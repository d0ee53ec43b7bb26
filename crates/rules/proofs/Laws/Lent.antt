-- What a world is like that passed the first rows of the table of refusals.
use Rattle.std.specs.Prelude.{◌≡◌, refl, Bool, true, false, not, ℕ, ◌≤◌, ◌<◌, eqb, length, get_or}
use Rattle.std.proofs.Common.{ap, arith, ltb-false, eqb-true, leb-true}
use Rattle.std.proofs.Math.Decide.{dec_lt}
use Rattle.std.proofs.lemmas.Bool.{not-false}
use Rattle.std.proofs.Math.ListN.{get_or-eq_default}
use Rattle.words.proofs.Choice.{both_right}
use Rattle.words.proofs.Tests.{neither_left, neither_right}
use Rattle.context.specs.Layout.{is_record, in_use, ranges_hold, fits_store}
use Rattle.requests.specs.declared.Request.{Request}
use Rattle.request_table.specs.Records.{record_of, records_of, all_records}
use Rattle.burst_table.specs.Bursts.{total_of}
use Rattle.burst_table.specs.Sizes.{slot_count, room_size}
use Rattle.records.specs.Memory.{Fits}
use Rattle.slots.specs.Slots.{slot}
use Rattle.slots.specs.declared.Slot.{Slot}
use Rattle.slots.specs.declared.Status.TheVariants.{Free, Running}
use Rattle.possible.proofs.Laws.{closed_free as all-free, open_fits as fits, running_right, running_moved}
use Rattle.rules.specs.World.{World, store_length, status_at, bad_row, bad_store, bad_lent, bad_state}

-- ---- the lengths

pub record Sized (w : World) : Type 0 where
  pub rowed : length w.row ≡ slot_count
  pub roomed : room_size ≤ length w.room

pub sized : (w : World) → bad_row w ≡ false → Sized w
unfolding bad_row
sized w e = record {
  rowed = eqb-true _ _ (not-false _ (neither_left (not (eqb (length w.row) slot_count)) _ e));
  roomed = ltb-false _ _ (neither_right (not (eqb (length w.row) slot_count)) _ e);
}

pub lent_sized : (w : World) → bad_lent w ≡ false → Sized w
unfolding bad_lent
lent_sized w e = sized w (neither_left (bad_row w) (bad_store w) e)

pub lent_store : (w : World) → bad_lent w ≡ false → w.hca.«open» ≡ true → store_length w ≡ w.hca.store_len
unfolding bad_lent bad_store
lent_store w e o = eqb-true _ _ (not-false _ (rw o at (neither_right (bad_row w) (bad_store w) e)))

-- a slot past the row's end is free, so an occupied one is one of the eight
pub beyond : (w : World) → Sized w → (j : ℕ) → ¬ (j < slot_count) → get_or w.row j (slot Free) ≡ slot Free
beyond w z j n = get_or-eq_default w.row (slot Free) {n = j} (omega (arith, z.rowed))

pub in_row : (w : World) → Sized w → (k : ℕ) → ¬ (status_at k w.row ≡ Free) → k < slot_count
unfolding status_at
in_row w z k n = go (dec_lt k slot_count)
  where
    go : Dec (k < slot_count) → k < slot_count
    go (yes h) = h
    go (no h) = absurd (n (ap (λ (x : Slot). x.status) (beyond w z k h)))

-- ---- a possible state

pub closed_free : (w : World) → bad_state w ≡ false → w.hca.«open» ≡ false → (k : ℕ) → status_at k w.row ≡ Free
unfolding bad_state status_at
closed_free w e o k = ap (λ (s : Slot). s.status) (all-free w.hca w.row o e k)

-- the records lie in the lent memory
pub open_fits : (w : World) → bad_lent w ≡ false → bad_state w ≡ false → w.hca.«open» ≡ true → Fits w.hca.logs w.memory
unfolding bad_state fits_store
open_fits w l e o =
    omega (
      arith,
      leb-true (in_use w.hca.logs) w.hca.store_len (both_right (ranges_hold w.hca.logs) _ (fits w.hca w.row o e)),
      lent_store w l o,
    )

-- a running slot's records are records of the store, and bursts are left
pub record Runs (w : World) (q : Request) (m : ℕ) : Type 0 where
  pub valid : is_record w.hca.logs (record_of q) ≡ true
  pub all : all_records w.hca.logs (records_of q) ≡ true
  pub more : m < total_of q

pub running : (w : World) → bad_state w ≡ false → w.hca.«open» ≡ true → (k : ℕ) (q : Request) (m : ℕ)
    → status_at k w.row ≡ Running m q → Runs w q m
unfolding bad_state status_at
running w e o k q m f = record {
  valid = (running_right w.hca w.row o e k q m f).valid;
  all = (running_right w.hca w.row o e k q m f).all;
  more = running_moved w.hca w.row o e k q m f;
}
