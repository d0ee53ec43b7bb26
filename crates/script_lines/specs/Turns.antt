-- The turns of the loop over a line's numbers, and the tests before it.
use Rattle.std.specs.Prelude.{◌≡◌, refl, Bool, true, false, List, ℕ, suc, ◌+◌, ◌-◌, ◌≤◌, ◌<◌, set, replicate, Option, Some, None}
use Rattle.std.proofs.Common.{arith, eq-eqb, ne_eqb, le-leb}
use Rattle.std.proofs.lemmas.Bool.{lt-leb}
use Rattle.words.specs.Choice.{both}
use Rattle.words.proofs.Choice.{pick_yes, pick_no}
use Rattle.script_words.specs.Words.{spaces}
use Rattle.script_lines.specs.Lines.{number_at, numbers_from, numbers_of}

-- ---- the tests: w words, as the line has them

both_first : (p q : Bool) → p ≡ false → both p q ≡ false
both_first p q e = rw e

both_second : (p q : Bool) → p ≡ true → q ≡ false → both p q ≡ false
both_second p q e f = rw (e, f)

both_hold : (p q : Bool) → p ≡ true → q ≡ true → both p q ≡ true
both_hold p q e f = rw (e, f)

pub too_few : (l : List ℕ) (from count w : ℕ) → w ≡ spaces l + 1 → w < from → None ≡ numbers_of l from count
unfolding numbers_of
too_few l from count w e h =
    pick_no _ _ _ _ (both_first _ _ (ne_eqb _ _ (λ (z : spaces l + 1 ≡ from + count). absurd (omega (arith, e, h, z))))) refl

pub other_count : (l : List ℕ) (from count w : ℕ) → w ≡ spaces l + 1 → from ≤ w → (w - from ≡ count → ⊥)
    → None ≡ numbers_of l from count
unfolding numbers_of
other_count l from count w e g n =
    pick_no _ _ _ _ (both_first _ _ (ne_eqb _ _ (λ (z : spaces l + 1 ≡ from + count). n (omega (arith, e, g, z))))) refl

pub too_many : (l : List ℕ) (from count w : ℕ) → w ≡ spaces l + 1 → from ≤ w → w - from ≡ count → 8 < count
    → None ≡ numbers_of l from count
unfolding numbers_of
too_many l from count w e g n h =
    pick_no _ _ _ _ (both_second _ _ (eq-eqb (spaces l + 1) (from + count) (omega (arith, e, g, n))) (lt-leb count 8 h)) refl

pub numbers_start : (l : List ℕ) (from count w : ℕ) → w ≡ spaces l + 1 → from ≤ w → w - from ≡ count → count ≤ 8
    → numbers_from (count - 0) l (from + 0) 0 (replicate 8 0) ≡ numbers_of l from count
unfolding numbers_of
numbers_start l from count w e g n h =
    let a : count - 0 ≡ count = omega arith in
    let b : from + 0 ≡ from = omega arith in
    rw (a, b) (pick_yes _ _ _ _ (both_hold _ _ (eq-eqb (spaces l + 1) (from + count) (omega (arith, e, g, n))) (le-leb count 8 h)) refl)

-- ---- the turns: i numbers are read, and `count - i` are left

one_more : (count i : ℕ) → i < count → count - i ≡ suc (count - (i + 1))
one_more count i h = omega (arith, h)

pub numbers_more : (l : List ℕ) (from count i x : ℕ) (at : List ℕ) (r : Option (List ℕ)) → i < count
    → number_at l (from + i) ≡ Some x → numbers_from (count - i) l (from + i) i at ≡ r
    → numbers_from (count - (i + 1)) l (from + (i + 1)) (i + 1) (set at i x) ≡ r
unfolding numbers_from
numbers_more l from count i x at r h m e =
    let b : from + (i + 1) ≡ from + i + 1 = omega arith in
    rw b (rw (one_more count i h, m) at e)

pub numbers_none : (l : List ℕ) (from count i : ℕ) (at : List ℕ) (r : Option (List ℕ)) → i < count
    → number_at l (from + i) ≡ None → numbers_from (count - i) l (from + i) i at ≡ r → None ≡ r
unfolding numbers_from
numbers_none l from count i at r h m e = rw (one_more count i h, m) at e

pub numbers_end : (l : List ℕ) (from count i : ℕ) (at : List ℕ) (r : Option (List ℕ)) → count ≤ i
    → numbers_from (count - i) l (from + i) i at ≡ r → Some at ≡ r
unfolding numbers_from
numbers_end l from count i at r h e =
    let z : count - i ≡ 0 = omega (arith, h) in
    rw z at e
