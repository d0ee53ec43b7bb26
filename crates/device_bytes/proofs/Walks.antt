-- WALKS: the row that a device's bytes have, slot by slot: what a loop over the eight slots keeps.
use Rattle.std.specs.Prelude.{◌≡◌, refl, List, [], ◌∷◌, ℕ, zero, suc, ◌+◌, ◌*◌, ◌≤◌, ◌<◌, length, get_or, set, replicate}
use Rattle.std.proofs.Common.{sym, ◌∙◌, ap, add-zero, add-one, arith, lit<, get_or-set_same, get_or-set_other, length-set}
use Rattle.std.proofs.Math.Decide.{ℕ_discrete}
use Rattle.words.specs.Parts.{part}
use Rattle.words.proofs.Parts.{get_or_part}
use Rattle.rows.specs.Rows.{empty_row}
use Rattle.slots.specs.Slots.{slot}
use Rattle.slots.specs.declared.Slot.{Slot}
use Rattle.slots.specs.declared.Status.TheVariants.{Free}
use Rattle.device_bytes.specs.Decoding.{slot_place, status_of, slot_at, slots_of}

pub length_slots : (n : ℕ) (dev : List ℕ) → length (slots_of n dev) ≡ 8
unfolding slots_of
length_slots zero dev = refl
length_slots (suc n) dev = length-set (slots_of n dev) n (slot_at n dev) ∙ length_slots n dev

-- ---- slots that are read

pub get_or_slots : (n : ℕ) (dev : List ℕ) (j : ℕ) → j < n → n ≤ 8 → get_or (slots_of n dev) j (slot Free) ≡ slot_at j dev
unfolding slots_of
get_or_slots zero dev j h k = absurd (omega arith)
get_or_slots (suc n) dev j h k = go (ℕ_discrete j n) (λ l. get_or_slots n dev j l (omega arith))
  where
    go : Dec (j ≡ n) → (j < n → get_or (slots_of n dev) j (slot Free) ≡ slot_at j dev)
        → get_or (set (slots_of n dev) n (slot_at n dev)) j (slot Free) ≡ slot_at j dev
    go (yes e) i = rw e (get_or-set_same (slots_of n dev) n (slot_at n dev) (slot Free) (omega (arith, length_slots n dev)))
    go (no e) i = get_or-set_other (slots_of n dev) n j (slot_at n dev) (slot Free) e ∙ i (omega arith)

-- ---- slots that are not read yet

pub free_empty : (n j : ℕ) → get_or (replicate n (slot Free)) j (slot Free) ≡ slot Free
free_empty zero j = refl
free_empty (suc n) zero = refl
free_empty (suc n) (suc j) = free_empty n j

pub free_behind : (n : ℕ) (dev : List ℕ) (j : ℕ) → n ≤ j → get_or (slots_of n dev) j (slot Free) ≡ slot Free
unfolding slots_of
free_behind zero dev j h = free_empty 8 j
free_behind (suc n) dev j h =
    get_or-set_other (slots_of n dev) n j (slot_at n dev) (slot Free) (λ e. omega arith) ∙ free_behind n dev j (omega arith)

-- ---- one slot more

pub none_slots : (dev : List ℕ) (row : List Slot) → row ≡ empty_row → row ≡ slots_of 0 dev
unfolding slots_of
none_slots dev row e = e

pub more_slots : (dev : List ℕ) (row : List Slot) (k : ℕ) (s : Slot) → row ≡ slots_of k dev → s ≡ slot_at k dev
    → set row k s ≡ slots_of (k + 1) dev
unfolding slots_of
more_slots dev row k s e f = rw (add-one, e, f)

set_back : (l : List Slot) (k : ℕ) → set l k (get_or l k (slot Free)) ≡ l
set_back [] k = refl
set_back (x ∷ l) zero = refl
set_back (x ∷ l) (suc k) = ap (λ (m : List Slot). x ∷ m) (set_back l k)

-- a slot whose first byte is 0 is free
pub free_read : (k : ℕ) (dev : List ℕ) → get_or dev (32 + k * 32) 0 ≡ 0 → slot_at k dev ≡ slot Free
unfolding slot_at status_of
free_read k dev e =
    let f : get_or (part (slot_place k) 32 dev) 0 0 ≡ 0 =
    get_or_part (slot_place k) 32 dev 0 (lit< tt) ∙ ap (λ (i : ℕ). get_or dev i 0) (add-zero (slot_place k)) ∙ e in
    rw f

-- A free slot is in the row already.
pub skip_slots : (dev : List ℕ) (row : List Slot) (k : ℕ) → row ≡ slots_of k dev → get_or dev (32 + k * 32) 0 ≡ 0
    → row ≡ slots_of (k + 1) dev
unfolding slots_of
skip_slots dev row k e f =
    e ∙ rw (add-one, free_read k dev f)
    (sym (ap (set (slots_of k dev) k) (sym (free_behind k dev k (omega arith))) ∙ set_back (slots_of k dev) k))

pub all_slots : (dev : List ℕ) (row : List Slot) (k : ℕ) → row ≡ slots_of k dev → k ≤ 8 → 8 ≤ k → row ≡ slots_of 8 dev
all_slots dev row k e h i =
    let z : k ≡ 8 = omega arith in
    e ∙ ap (λ (n : ℕ). slots_of n dev) z
