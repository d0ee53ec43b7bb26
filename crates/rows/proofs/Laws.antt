-- Laws of the questions about a row, as the operations and their theorems use them.
use Rattle.std.specs.Prelude.{◌≡◌, refl, Bool, true, false, List, [], ◌∷◌, ℕ, zero, suc, ◌+◌, ◌≤◌, ◌<◌, length, set, Some, None}
use Rattle.std.proofs.Common.{sym, ◌∙◌, ap, ap₂, subst, arith}
use Rattle.std.proofs.lemmas.Bool.{false≢true}
use Rattle.std.proofs.Math.ListN.{get_or-eq_default}
use Rattle.slots.specs.Slots.{slot, occupied_status, is_occupied, has_command}
use Rattle.rows.specs.Rows.{any_slot, lowest_free}
use Rattle.rows.proofs.Every.{at, NoneOf, none_each}
use Rattle.slots.specs.declared.Slot.{Slot}
use Rattle.slots.specs.declared.Status.{Status}
use Rattle.slots.specs.declared.Status.TheVariants.{Free, Running, Finished}

free_is : (s : Status) → occupied_status s ≡ false → s ≡ Free
free_is Free e = refl
free_is (Running m q) e = absurd (false≢true (sym e))
free_is (Finished m q) e = absurd (false≢true (sym e))

-- ---- past the row's end

-- a number past the row's end names a free slot
pub beyond_free : (row : List Slot) (k : ℕ) → length row ≤ k → at row k ≡ slot Free
beyond_free row k h = get_or-eq_default row (slot Free) {n = k} h

-- and no slot to replace
pub beyond_kept : (row : List Slot) (k : ℕ) (s : Slot) → length row ≤ k → set row k s ≡ row
beyond_kept [] k s h = refl
beyond_kept (x ∷ xs) zero s h = absurd (omega arith)
beyond_kept (x ∷ xs) (suc k) s h = ap (x ∷◌) (beyond_kept xs k s (omega arith))

-- as the code has them, of eight slots
pub slot_beyond : (row : List Slot) (k : ℕ) → length row ≡ 8 → 8 ≤ k → slot Free ≡ at row k
slot_beyond row k n h = sym (beyond_free row k (omega arith))

pub status_beyond : (row : List Slot) (k : ℕ) → length row ≡ 8 → 8 ≤ k → Free ≡ (at row k).status
status_beyond row k n h = ap (λ (s : Slot). s.status) (slot_beyond row k n h)

pub put_beyond : (row : List Slot) (k : ℕ) (s : Slot) → length row ≡ 8 → 8 ≤ k → row ≡ set row k s
put_beyond row k s n h = sym (beyond_kept row k s (omega arith))

-- ---- occupied, with a command, free

pub not_occupied : (s : Slot) → is_occupied s ≡ false → s ≡ slot Free
not_occupied s e = ap slot (free_is s.status e)

pub none_occupied : (row : List Slot) → any_slot is_occupied row ≡ false → (k : ℕ) → at row k ≡ slot Free
none_occupied row e k = not_occupied (at row k) (none_each is_occupied row refl e k)

pub none_command : (row : List Slot) → any_slot has_command row ≡ false → (k : ℕ) → has_command (at row k) ≡ false
none_command row e k = none_each has_command row refl e k

-- the lowest free slot: it is in the row, it is free, and every slot below it is occupied
pub record Lowest (row : List Slot) (k : ℕ) : Type 0 where
  pub inside : k < length row
  pub free : (at row k).status ≡ Free
  pub below : (j : ℕ) → j < k → is_occupied (at row j) ≡ true

found_at : (s k : ℕ) → Some s ≡ Some k → s ≡ k
found_at s k e = cc

found_nothing : (k : ℕ) → None ≡ Some k → ⊥
found_nothing k e = let z : ◌≡◌ {A = ℕ} 0 1 = cc in omega arith

-- a row whose first slot is occupied
pub lowest_behind : (x : Slot) (xs : List Slot) (d : ℕ) → is_occupied x ≡ true → Lowest xs d → Lowest (x ∷ xs) (suc d)
lowest_behind x xs d o l = record { inside = omega (arith, l.inside); free = l.free; below = low }
  where
    low : (j : ℕ) → j < suc d → is_occupied (at (x ∷ xs) j) ≡ true
    low zero h = o
    low (suc j) h = l.below j (omega arith)

-- of a row whose first slot has the number s
record From (s k : ℕ) (row : List Slot) : Type 0 where
  pub d : ℕ
  pub is : k ≡ s + d
  pub lowest : Lowest row d

lowest_from : (s : ℕ) (row : List Slot) (k : ℕ) → lowest_free s row ≡ Some k → From s k row
unfolding lowest_free
lowest_from s [] k e = absurd (found_nothing k e)
lowest_from s (x ∷ xs) k e = go (is_occupied x) refl (lowest_from (suc s) xs k)
  where
    next : From (suc s) k xs → is_occupied x ≡ true → From s k (x ∷ xs)
    next f o = record { d = suc f.d; is = omega (arith, f.is); lowest = lowest_behind x xs f.d o f.lowest }

    go : (b : Bool) → is_occupied x ≡ b → (lowest_free (suc s) xs ≡ Some k → From (suc s) k xs) → From s k (x ∷ xs)
    go true o more = next (more (rw o at e)) o
    go false o more =
        let n : s ≡ k = found_at s k (rw o at e) in
        let here : (at (x ∷ xs) zero).status ≡ Free = ap (λ (u : Slot). u.status) (not_occupied x o) in
        record { d = zero; is = omega arith; lowest = record { inside = omega arith; free = here; below = λ j h. absurd (omega arith) } }

pub lowest_free_is : (row : List Slot) (k : ℕ) → lowest_free 0 row ≡ Some k → Lowest row k
lowest_free_is row k e =
    let f : From 0 k row = lowest_from 0 row k e in
    let n : f.d ≡ k = omega (arith, f.is) in
    subst (Lowest row) n f.lowest

-- no slot is free: all are occupied
pub lowest_nothing : (s : ℕ) (row : List Slot) → lowest_free s row ≡ None → (k : ℕ) → k < length row → is_occupied (at row k) ≡ true
unfolding lowest_free
lowest_nothing s [] e k h = absurd (omega arith)
lowest_nothing s (x ∷ xs) e k h = go (is_occupied x) refl k h (lowest_nothing (suc s) xs)
  where
    go : (b : Bool) → is_occupied x ≡ b → (k : ℕ) → k < length (x ∷ xs)
        → (lowest_free (suc s) xs ≡ None → (k : ℕ) → k < length xs → is_occupied (at xs k) ≡ true)
        → is_occupied (at (x ∷ xs) k) ≡ true
    go false o k h more = absurd (found_nothing s (sym (rw o at e)))
    go true o zero h more = o
    go true o (suc k) h more = more (rw o at e) k (omega arith)
