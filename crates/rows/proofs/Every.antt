-- What `any_slot` and `any_rest` say of each slot, and of each pair of slots, and what is left of it when one slot changes.
-- Slots are named by their numbers: past the row's end stands a free slot.
use Rattle.std.specs.Prelude.{◌≡◌, Bool, false, get_or, set}
use Rattle.std.proofs.Math.Path.{refl}
use Rattle.std.proofs.Common.{sym, ◌∙◌, subst, arith, get_or-set_other}
use mathlib.Core.List.{List, [], ◌∷◌}
use Prim.Native.Nat.{ℕ, zero, suc, ◌<◌}
use Rattle.std.proofs.Math.Decide.{ℕ_discrete, dec_lt}
use Rattle.std.proofs.Math.Nat.{suc_inj}
use Rattle.words.proofs.Tests.{neither_left, neither_right, neither}
use Rattle.slots.specs.Slots.{slot}
use Rattle.rows.specs.Rows.{any_slot, any_rest}
use Rattle.slots.specs.declared.Slot.{Slot}
use Rattle.slots.specs.declared.Status.TheVariants.{Free}

-- slot k of a row
abbrev pub at : List Slot → ℕ → Slot
at row k = get_or row k (slot Free)

-- no slot passes the test
abbrev pub NoneOf : (Slot → Bool) → List Slot → Type 0
NoneOf p row = (k : ℕ) → p (at row k) ≡ false

-- no two slots pass the test
abbrev pub NoTwo : (Slot → Slot → Bool) → List Slot → Type 0
NoTwo t row = (i j : ℕ) → ¬ (i ≡ j) → t (at row i) (at row j) ≡ false

-- ---- each slot

pub none_each : (p : Slot → Bool) (row : List Slot) → p (slot Free) ≡ false → any_slot p row ≡ false → NoneOf p row
unfolding any_slot
none_each p [] f e k = f
none_each p (s ∷ ss) f e zero = neither_left (p s) (any_slot p ss) e
none_each p (s ∷ ss) f e (suc k) = none_each p ss f (neither_right (p s) (any_slot p ss) e) k

pub each_none : (p : Slot → Bool) (row : List Slot) → NoneOf p row → any_slot p row ≡ false
unfolding any_slot
each_none p [] h = refl
each_none p (s ∷ ss) h = neither (p s) (any_slot p ss) (h zero) (each_none p ss (λ k. h (suc k)))

-- ---- each pair of slots: p says of a slot and those behind it what t says of it and each of them

module _ (p : Slot → List Slot → Bool) (t : Slot → Slot → Bool) (is : (s : Slot) (ss : List Slot) → p s ss ≡ any_slot (t s) ss) where
  pub pairs_before : ((s : Slot) → t s (slot Free) ≡ false) → ((s : Slot) → t (slot Free) s ≡ false)
      → (row : List Slot) → any_rest p row ≡ false
      → (i j : ℕ) → i < j → t (at row i) (at row j) ≡ false
  unfolding any_rest
  pairs_before f g [] e i j h = f (slot Free)
  pairs_before f g (s ∷ ss) e i zero h = absurd (omega arith)
  pairs_before f g (s ∷ ss) e zero (suc j) h = none_each (t s) ss (f s) (sym (is s ss) ∙ neither_left (p s ss) (any_rest p ss) e) j
  pairs_before f g (s ∷ ss) e (suc i) (suc j) h = pairs_before f g ss (neither_right (p s ss) (any_rest p ss) e) i j (omega arith)

  pub pairs_none : (row : List Slot) → NoTwo t row → any_rest p row ≡ false
  unfolding any_rest
  pairs_none [] h = refl
  pairs_none (s ∷ ss) h =
      neither (p s ss) (any_rest p ss) (is s ss ∙ each_none (t s) ss (λ k. h zero (suc k) (λ e. omega arith)))
      (pairs_none ss (λ i j n. h (suc i) (suc j) (λ e. n (suc_inj e))))

  pub none_pairs : ((s u : Slot) → t s u ≡ t u s) → ((s : Slot) → t s (slot Free) ≡ false)
      → (row : List Slot) → any_rest p row ≡ false → NoTwo t row
  none_pairs swap f row e i j n = go (dec_lt i j)
    where
      g : (s : Slot) → t (slot Free) s ≡ false
      g s = swap (slot Free) s ∙ f s

      go : Dec (i < j) → t (at row i) (at row j) ≡ false
      go (yes h) = pairs_before f g row e i j h
      go (no h) = swap (at row i) (at row j) ∙ pairs_before f g row e j i (omega arith)

-- ---- one slot changed

-- what holds of the new slot, and of the old row's slot i, holds of the new row's slot i
pub changed_at : (P : Slot → Type 0) (row : List Slot) (k i : ℕ) (s : Slot) → P s → P (at row i) → P (at (set row k s) i)
changed_at P [] k i s h g = g
changed_at P (x ∷ xs) zero zero s h g = h
changed_at P (x ∷ xs) zero (suc i) s h g = g
changed_at P (x ∷ xs) (suc k) zero s h g = g
changed_at P (x ∷ xs) (suc k) (suc i) s h g = changed_at P xs k i s h g

pub none_set : (p : Slot → Bool) (row : List Slot) (k : ℕ) (s : Slot) → p s ≡ false → NoneOf p row → NoneOf p (set row k s)
none_set p row k s e h i = changed_at (λ (x : Slot). p x ≡ false) row k i s e (h i)

pub pairs_set : (t : Slot → Slot → Bool) (row : List Slot) (k : ℕ) (s : Slot) → ((s u : Slot) → t s u ≡ t u s)
    → ((i : ℕ) → ¬ (i ≡ k) → t s (at row i) ≡ false) → NoTwo t row → NoTwo t (set row k s)
pairs_set t row k s swap new h i j n = go (ℕ_discrete i k) (ℕ_discrete j k)
  where
    here : (j : ℕ) → ¬ (j ≡ k) → t (at (set row k s) k) (at (set row k s) j) ≡ false
    here j m =
        subst (λ (x : Slot). t (at (set row k s) k) x ≡ false) (sym (get_or-set_other row k j s (slot Free) m))
        (changed_at (λ (x : Slot). t x (at row j) ≡ false) row k k s (new j m) (h k j (λ e. m (sym e))))

    go : Dec (i ≡ k) → Dec (j ≡ k) → t (at (set row k s) i) (at (set row k s) j) ≡ false
    go (yes e) (yes f) = absurd (n (e ∙ sym f))
    go (yes e) (no f) = rw e (here j f)
    go (no e) (yes f) = rw f (swap (at (set row k s) i) (at (set row k s) k) ∙ here i e)
    go (no e) (no f) = rw (get_or-set_other row k i s (slot Free) e, get_or-set_other row k j s (slot Free) f) (h i j n)
