-- The device's answers: occupied slots by their first bytes, and what each way out says of the state and the row that the bytes have.
use Rattle.std.specs.Prelude.{◌≡◌, Bool, true, false, not, List, ℕ, ◌+◌, ◌*◌, ◌≤◌, ◌<◌, eqb, length, Option, Some, None}
use Rattle.std.proofs.Math.Path.{refl, ap}
use Rattle.std.proofs.Common.{sym, ◌∙◌, add-zero, arith, lit<}
use Rattle.std.proofs.lemmas.Bool.{false≢true}
use borrow.Author.Tests.{not-true, not-false, lt-ltb, le-ltb, ne_eqb}
use Rattle.std.proofs.Math.ListN.{get_or}
use Rattle.words.specs.Choice.{pick}
use Rattle.words.specs.Parts.{part}
use Rattle.words.proofs.Parts.{get_or_part}
use Rattle.context.specs.Layout.{fits_store}
use Rattle.slots.specs.Slots.{slot, occupied_status, is_occupied}
use Rattle.slots.specs.declared.Slot.{Slot}
use Rattle.slots.specs.declared.Status.TheVariants.{Running, Finished}
use Rattle.rows.specs.Rows.{any_slot}
use Rattle.rows.proofs.Every.{at, none_each}
use Rattle.slot_checks.specs.SlotChecks.{slot_wrong}
use Rattle.possible.specs.Possible.{open_impossible, impossible}
use Rattle.possible.proofs.Rows.{open_row}
use Rattle.possible.specs.declared.Hca.{Hca}
use Rattle.device_bytes.specs.Decoding.{slot_place, request_in, broken, status_held, status_of, slot_at, slots_of, row_of}
use Rattle.device_bytes.proofs.Walks.{get_or_slots, skip_slots}
use Rattle.slot_judging.specs.Laws.{broken_wrong}
use Rattle.judging.specs.Judging.{slots_impossible, open_device}
use Rattle.requests.specs.declared.Request.{Request}

-- ---- occupied slots

held_occupied : (code m : ℕ) (f : Option Request) → occupied_status (status_held code m f) ≡ true
held_occupied code m (Some q) = go (eqb code 1) (eqb code 2)
  where
    go : (a b : Bool) → occupied_status (pick a (Running m q) (pick b (Finished m q) broken)) ≡ true
    go true b = refl
    go false true = refl
    go false false = refl
held_occupied code m None = refl

module _ (dev : List ℕ) where
  pub occupied_none : any_slot is_occupied (slots_of 0 dev) ≡ false
  unfolding slots_of any_slot
  occupied_none = refl

  pub occupied_more : (k : ℕ) → any_slot is_occupied (slots_of k dev) ≡ false → get_or dev (32 + k * 32) 0 ≡ 0
      → any_slot is_occupied (slots_of (k + 1) dev) ≡ false
  occupied_more k e f = ap (any_slot is_occupied) (sym (skip_slots dev (slots_of k dev) k refl f)) ∙ e

  pub occupied_all : (k : ℕ) → any_slot is_occupied (slots_of k dev) ≡ false → k ≤ 8 → 8 ≤ k → false ≡ any_slot is_occupied (slots_of 8 dev)
  occupied_all k e h i =
      let z : k ≡ 8 = omega arith in
      sym (rw z at e)

  pub some_occupied : (k : ℕ) → ¬ (get_or dev (32 + k * 32) 0 ≡ 0) → is_occupied (slot_at k dev) ≡ true
  unfolding slot_at status_of
  some_occupied k some =
      let f : get_or (part (slot_place k) 32 dev) 0 0 ≡ get_or dev (32 + k * 32) 0 =
      get_or_part (slot_place k) 32 dev 0 (lit< tt) ∙ ap (λ (i : ℕ). get_or dev i 0) (add-zero (slot_place k)) in
      rw (ne_eqb (get_or (part (slot_place k) 32 dev) 0 0) 0 (λ e. some (sym f ∙ e)))
      (held_occupied (get_or (part (slot_place k) 32 dev) 0 0) (get_or (part (slot_place k) 32 dev) 2 0) (request_in (part (slot_place k) 32 dev)))

  pub occupied_found : (k : ℕ) → k < 8 → ¬ (get_or dev (32 + k * 32) 0 ≡ 0) → true ≡ any_slot is_occupied (slots_of 8 dev)
  occupied_found k h some = go (any_slot is_occupied (slots_of 8 dev)) refl
    where
      go : (b : Bool) → any_slot is_occupied (slots_of 8 dev) ≡ b → true ≡ b
      go true e = refl
      go false e =
          absurd (false≢true
          (sym (none_each is_occupied (slots_of 8 dev) refl e k) ∙ ap is_occupied (get_or_slots 8 dev k h (omega arith)) ∙ some_occupied k some))

-- ---- the device

-- a row with a slot that no state has is impossible, open or closed
junk : (h : Hca) (row : List Slot) (k : ℕ) → at row k ≡ slot broken → true ≡ impossible h row
unfolding impossible
junk h row k e = go h.«open»
  where
    opened : (b : Bool) → open_impossible h.logs h.store_len row ≡ b → true ≡ b
    opened true f = refl
    opened false f =
        absurd (false≢true
        (sym ((open_row h.logs h.store_len row f).right k) ∙ ap (slot_wrong h.logs) e ∙ broken_wrong h.logs))

    shut : (b : Bool) → any_slot is_occupied row ≡ b → true ≡ b
    shut true f = refl
    shut false f = absurd (false≢true (sym (none_each is_occupied row refl f k) ∙ ap is_occupied e))

    go : (b : Bool) → true ≡ pick b (open_impossible h.logs h.store_len row) (any_slot is_occupied row)
    go true = opened (open_impossible h.logs h.store_len row) refl
    go false = shut (any_slot is_occupied row) refl

pub open_past : (h : Hca) (dev : List ℕ) (t : Bool) → t ≡ fits_store h.logs h.store_len → not t ≡ true → true ≡ open_device h dev
unfolding open_device open_impossible
open_past h dev t e f = rw (← e, not-true t f)

pub open_slots : (h : Hca) (dev : List ℕ) (t b : Bool) → t ≡ fits_store h.logs h.store_len → not t ≡ false
    → b ≡ slots_impossible h.logs (slots_of 8 dev) → b ≡ open_device h dev
unfolding open_device open_impossible slots_impossible
open_slots h dev t b e f i = rw (← e, not-false t f) i

-- open or closed
pub slots_are : (dev : List ℕ) → length dev ≡ 288 → get_or dev 0 0 ≤ 1 → row_of dev ≡ slots_of 8 dev
unfolding row_of
slots_are dev l k = rw (l, le-ltb 1 (get_or dev 0 0) k)

module _ (h : Hca) (dev : List ℕ) (l : length dev ≡ 288) where
  -- neither open nor closed
  pub device_junk : 1 < get_or dev 0 0 → true ≡ impossible h (row_of dev)
  unfolding row_of
  device_junk k = rw (l, lt-ltb 1 (get_or dev 0 0) k) (junk h _ 0 refl)

  pub device_open : (b : Bool) → get_or dev 0 0 ≤ 1 → h.«open» ≡ true → b ≡ open_device h dev → b ≡ impossible h (row_of dev)
  unfolding impossible open_device
  device_open b k o e = rw (slots_are dev l k, o) e

  pub device_closed : (b : Bool) → get_or dev 0 0 ≤ 1 → h.«open» ≡ false → b ≡ any_slot is_occupied (slots_of 8 dev)
      → b ≡ impossible h (row_of dev)
  unfolding impossible
  device_closed b k o e = rw (slots_are dev l k, o) e
