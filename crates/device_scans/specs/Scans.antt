-- The turns of the two scans of a device's bytes.
use Rattle.std.specs.Prelude.{◌≡◌, Bool, true, false, not, List, [], ◌∷◌, ℕ, ◌+◌, ◌≤◌, ◌<◌, length, get_or, drop, Option, Some, None}
use Rattle.std.proofs.Common.{sym, ◌∙◌, ap, lit≤}
use Rattle.std.proofs.lemmas.Bool.{not-true}
use Rattle.context.specs.Layout.{number_of}
use Rattle.context.specs.declared.Record.{Record}
use Rattle.slots.specs.Slots.{slot, is_occupied}
use Rattle.slots.specs.declared.Slot.{Slot}
use Rattle.slots.specs.declared.Status.TheVariants.{Free}
use Rattle.rows.specs.Rows.{any_slot, lowest_free}
use Rattle.rows.proofs.Scans.{any_more, any_found, any_none, free_more, free_found, free_none}
use Rattle.holds.specs.Holds.{clash_slot}
use Rattle.device_bytes.specs.Decoding.{slot_place, slot_at, slots_of, row_of}
use Rattle.device_bytes.proofs.Walks.{length_slots, get_or_slots, free_read}
use Rattle.judging.specs.Device.{some_occupied, slots_are}
use Rattle.device_scans.specs.Passed.{may_hold, passed}

-- a device whose bytes have a row: of the right length, and open or closed
pub record HasRow (dev : List ℕ) : Type 0 where
  pub sized : length dev ≡ 288
  pub flag : get_or dev 0 0 ≤ 1

module _ (dev : List ℕ) where
  slot_is : (k : ℕ) → k < 8 → get_or (slots_of 8 dev) k (slot Free) ≡ slot_at k dev
  slot_is k h = get_or_slots 8 dev k h (lit≤ tt)

  -- ---- the lowest free slot

  pub free_passed : (k : ℕ) (r : Option ℕ) → k < 8 → ¬ (get_or dev (slot_place k) 0 ≡ 0) → lowest_free k (drop k (slots_of 8 dev)) ≡ r
      → lowest_free (k + 1) (drop (k + 1) (slots_of 8 dev)) ≡ r
  free_passed k r h some e =
      free_more (slots_of 8 dev) k r (length_slots 8 dev) h (ap is_occupied (slot_is k h) ∙ some_occupied dev k some) e

  module _ (row : HasRow dev) where
    row_is : slots_of 8 dev ≡ row_of dev
    row_is = sym (slots_are dev row.sized row.flag)

    pub free_taken : (k : ℕ) → k < 8 → get_or dev (slot_place k) 0 ≡ 0 → lowest_free k (drop k (slots_of 8 dev)) ≡ lowest_free 0 (slots_of 8 dev)
        → Some k ≡ lowest_free 0 (row_of dev)
    free_taken k h none e =
        free_found (slots_of 8 dev) k (lowest_free 0 (slots_of 8 dev)) (length_slots 8 dev) h
        (ap is_occupied (slot_is k h ∙ free_read k dev none)) e
        ∙ ap (lowest_free 0) row_is

    pub free_full : (k : ℕ) → 8 ≤ k → lowest_free k (drop k (slots_of 8 dev)) ≡ lowest_free 0 (slots_of 8 dev) → None ≡ lowest_free 0 (row_of dev)
    free_full k h e = free_none (slots_of 8 dev) k (lowest_free 0 (slots_of 8 dev)) (length_slots 8 dev) h e ∙ ap (lowest_free 0) row_is

  -- ---- a hold

  module _ (w : Bool) (X : Record) (k : ℕ) (h : k < 8) where
    clash_is : clash_slot w (X ∷ []) (get_or (slots_of 8 dev) k (slot Free)) ≡ clash_slot w (X ∷ []) (slot_at k dev)
    clash_is = ap (clash_slot w (X ∷ [])) (slot_is k h)

    -- what a slot was asked, as its two calls answered
    told_clash : (s : Slot) (b : Bool) → s ≡ slot_at k dev → b ≡ clash_slot w (X ∷ []) s
        → clash_slot w (X ∷ []) (get_or (slots_of 8 dev) k (slot Free)) ≡ b
    told_clash s b e f = clash_is ∙ ap (clash_slot w (X ∷ [])) (sym e) ∙ sym f

    pub held_passed : (n : ℕ) (b r : Bool) → length dev ≡ 288 → n ≡ number_of X → b ≡ may_hold n k dev → not b ≡ true
        → any_slot (clash_slot w (X ∷ [])) (drop k (slots_of 8 dev)) ≡ r
        → any_slot (clash_slot w (X ∷ [])) (drop (k + 1) (slots_of 8 dev)) ≡ r
    held_passed n b r l e f m i =
        any_more (clash_slot w (X ∷ [])) (slots_of 8 dev) k r (length_slots 8 dev) h
        (clash_is ∙ passed w X k dev h l (ap (λ (x : ℕ). may_hold x k dev) (sym e) ∙ sym f ∙ not-true b m)) i

    pub held_clear : (s : Slot) (b r : Bool) → s ≡ slot_at k dev → b ≡ clash_slot w (X ∷ []) s → b ≡ false
        → any_slot (clash_slot w (X ∷ [])) (drop k (slots_of 8 dev)) ≡ r
        → any_slot (clash_slot w (X ∷ [])) (drop (k + 1) (slots_of 8 dev)) ≡ r
    held_clear s b r e f g i =
        any_more (clash_slot w (X ∷ [])) (slots_of 8 dev) k r (length_slots 8 dev) h (told_clash s b e f ∙ g) i

    pub held_found : HasRow dev → (s : Slot) (b : Bool) → s ≡ slot_at k dev → b ≡ clash_slot w (X ∷ []) s → b ≡ true
        → any_slot (clash_slot w (X ∷ [])) (drop k (slots_of 8 dev)) ≡ any_slot (clash_slot w (X ∷ [])) (slots_of 8 dev)
        → true ≡ any_slot (clash_slot w (X ∷ [])) (row_of dev)
    held_found row s b e f g i =
        any_found (clash_slot w (X ∷ [])) (slots_of 8 dev) (slots_of 8 dev) k (length_slots 8 dev) h (told_clash s b e f ∙ g) i
        ∙ ap (any_slot (clash_slot w (X ∷ []))) (row_is row)

  pub held_none : HasRow dev → (w : Bool) (X : Record) (k : ℕ) → 8 ≤ k
      → any_slot (clash_slot w (X ∷ [])) (drop k (slots_of 8 dev)) ≡ any_slot (clash_slot w (X ∷ [])) (slots_of 8 dev)
      → false ≡ any_slot (clash_slot w (X ∷ [])) (row_of dev)
  held_none row w X k h i =
      any_none (clash_slot w (X ∷ [])) (slots_of 8 dev) (slots_of 8 dev) k (length_slots 8 dev) h i
      ∙ ap (any_slot (clash_slot w (X ∷ []))) (row_is row)
