-- The turns of a loop over a row of eight slots. Each loop keeps that what is left of the row decides: what the test says of
-- the slots from i on is what it says of all that were to be scanned, l.
use Rattle.std.specs.Prelude.{◌≡◌, Bool, true, false, List, [], ℕ, suc, ◌+◌, ◌≤◌, ◌<◌, length, get_or, drop, Option, Some, None}
use Rattle.std.proofs.Common.{sym, ◌∙◌, add-one, arith, drop_of_length-le, drop-cons}
use Rattle.words.specs.Choice.{pick, either}
use Rattle.slots.specs.Slots.{slot, is_occupied}
use Rattle.rows.specs.Rows.{any_slot, any_rest, lowest_free}
use Rattle.slots.specs.declared.Slot.{Slot}
use Rattle.slots.specs.declared.Status.TheVariants.{Free}

-- ---- a slot that passes a test

any_head : (p : Slot → Bool) (row : List Slot) (i : ℕ) → i < length row
    → any_slot p (drop i row) ≡ either (p (get_or row i (slot Free))) (any_slot p (drop (suc i) row))
unfolding any_slot
any_head p row i h = rw (drop-cons row i (slot Free) h)

pub any_more : (p : Slot → Bool) (row : List Slot) (i : ℕ) (r : Bool) → length row ≡ 8 → i < 8
    → p (get_or row i (slot Free)) ≡ false → any_slot p (drop i row) ≡ r → any_slot p (drop (i + 1) row) ≡ r
any_more p row i r n h t k =
    rw add-one (simp t at (sym (any_head p row i (omega arith)) ∙ k))

pub any_found : (p : Slot → Bool) (row l : List Slot) (i : ℕ) → length row ≡ 8 → i < 8
    → p (get_or row i (slot Free)) ≡ true → any_slot p (drop i row) ≡ any_slot p l → true ≡ any_slot p l
any_found p row l i n h t k =
    sym (simp t at (any_head p row i (omega arith))) ∙ k

pub any_none : (p : Slot → Bool) (row l : List Slot) (i : ℕ) → length row ≡ 8 → 8 ≤ i
    → any_slot p (drop i row) ≡ any_slot p l → false ≡ any_slot p l
unfolding any_slot
any_none p row l i n h k =
    let g : drop i row ≡ [] = drop_of_length-le row {i = i} (omega arith) in
    rw g at k

-- ---- a slot that passes a test with those behind it

rest_head : (p : Slot → List Slot → Bool) (row : List Slot) (i : ℕ) → i < length row
    → any_rest p (drop i row) ≡ either (p (get_or row i (slot Free)) (drop (suc i) row)) (any_rest p (drop (suc i) row))
unfolding any_rest
rest_head p row i h = rw (drop-cons row i (slot Free) h)

pub rest_more : (p : Slot → List Slot → Bool) (row : List Slot) (i : ℕ) (r : Bool) → length row ≡ 8 → i < 8
    → p (get_or row i (slot Free)) (drop (i + 1) row) ≡ false → any_rest p (drop i row) ≡ r → any_rest p (drop (i + 1) row) ≡ r
rest_more p row i r n h f k =
    let t : p (get_or row i (slot Free)) (drop (suc i) row) ≡ false = rw add-one at f in
    rw add-one (simp t at (sym (rest_head p row i (omega arith)) ∙ k))

pub rest_found : (p : Slot → List Slot → Bool) (row l : List Slot) (i : ℕ) → length row ≡ 8 → i < 8
    → p (get_or row i (slot Free)) (drop (i + 1) row) ≡ true → any_rest p (drop i row) ≡ any_rest p l → true ≡ any_rest p l
rest_found p row l i n h f k =
    let t : p (get_or row i (slot Free)) (drop (suc i) row) ≡ true = rw add-one at f in
    sym (simp t at (rest_head p row i (omega arith))) ∙ k

pub rest_none : (p : Slot → List Slot → Bool) (row l : List Slot) (i : ℕ) → length row ≡ 8 → 8 ≤ i
    → any_rest p (drop i row) ≡ any_rest p l → false ≡ any_rest p l
unfolding any_rest
rest_none p row l i n h k =
    let g : drop i row ≡ [] = drop_of_length-le row {i = i} (omega arith) in
    rw g at k

-- ---- the lowest free slot

free_head : (row : List Slot) (i : ℕ) → i < length row
    → lowest_free i (drop i row) ≡ pick (is_occupied (get_or row i (slot Free))) (lowest_free (suc i) (drop (suc i) row)) (Some i)
unfolding lowest_free
free_head row i h = rw (drop-cons row i (slot Free) h)

pub free_more : (row : List Slot) (i : ℕ) (r : Option ℕ) → length row ≡ 8 → i < 8
    → is_occupied (get_or row i (slot Free)) ≡ true → lowest_free i (drop i row) ≡ r → lowest_free (i + 1) (drop (i + 1) row) ≡ r
free_more row i r n h t k =
    rw add-one (simp t at (sym (free_head row i (omega arith)) ∙ k))

pub free_found : (row : List Slot) (i : ℕ) (r : Option ℕ) → length row ≡ 8 → i < 8
    → is_occupied (get_or row i (slot Free)) ≡ false → lowest_free i (drop i row) ≡ r → Some i ≡ r
free_found row i r n h t k =
    sym (simp t at (free_head row i (omega arith))) ∙ k

pub free_none : (row : List Slot) (i : ℕ) (r : Option ℕ) → length row ≡ 8 → 8 ≤ i → lowest_free i (drop i row) ≡ r → None ≡ r
unfolding lowest_free
free_none row i r n h k =
    let g : drop i row ≡ [] = drop_of_length-le row {i = i} (omega arith) in
    rw g at k
