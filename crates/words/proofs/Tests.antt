-- What tests say: two of them, of which both, one or neither holds, and a range.
use Rattle.std.specs.Prelude.{◌≡◌, refl, Bool, true, false, ◌⊎◌, ℕ, ◌+◌, ◌≤◌, ◌<◌, T, eqb, leb}
use Rattle.std.proofs.Common.{sym, ◌∙◌, inl, inr, arith, leb-true, le-leb, eq-eqb, ne_eqb}
use Rattle.std.proofs.lemmas.Bool.{false≢true, lt-leb}
use Rattle.std.proofs.Math.Decide.{ℕ_discrete, dec_lt}
use Rattle.words.specs.Choice.{pick, both, either, within}
use Rattle.words.proofs.Choice.{both_left, both_right}

pub is_true : (b : Bool) → T b → b ≡ true
is_true true t = refl
is_true false t = absurd t

pub neither_left : (p q : Bool) → either p q ≡ false → p ≡ false
neither_left true q e = e
neither_left false q e = refl

pub neither_right : (p q : Bool) → either p q ≡ false → q ≡ false
neither_right true q e = absurd (false≢true (sym e))
neither_right false q e = e

pub neither : (p q : Bool) → p ≡ false → q ≡ false → either p q ≡ false
neither p q e f = rw e f

pub either_swap : (p q : Bool) → either p q ≡ either q p
either_swap true true = refl
either_swap true false = refl
either_swap false true = refl
either_swap false false = refl

pub either_false : (p : Bool) → either p false ≡ p
either_false true = refl
either_false false = refl

pub both_swap : (p q : Bool) → both p q ≡ both q p
both_swap true true = refl
both_swap true false = refl
both_swap false true = refl
both_swap false false = refl

pub both_false : (p q : Bool) → q ≡ false → both p q ≡ false
both_false true q e = e
both_false false q e = refl

pub eqb_swap : (m n : ℕ) → eqb m n ≡ eqb n m
eqb_swap m n = go (ℕ_discrete m n)
  where
    go : Dec (m ≡ n) → eqb m n ≡ eqb n m
    go (yes e) = eq-eqb m n e ∙ sym (eq-eqb n m (sym e))
    go (no e) = ne_eqb m n e ∙ sym (ne_eqb n m (λ f. e (sym f)))

-- the same value by one test or the other
pub pick_either : {A : Type 0} (p q : Bool) (x b : A) → pick q x (pick p x b) ≡ pick (either p q) x b
pick_either true true x b = refl
pick_either true false x b = refl
pick_either false q x b = refl

pub either_assoc : (p q r : Bool) → either (either p q) r ≡ either p (either q r)
either_assoc true q r = refl
either_assoc false q r = refl

-- a range of places
pub within_low : (a b i : ℕ) → within a b i ≡ true → a ≤ i
within_low a b i t = leb-true a i (both_left (leb a i) (leb i b) t)

pub within_high : (a b i : ℕ) → within a b i ≡ true → i ≤ b
within_high a b i t = leb-true i b (both_right (leb a i) (leb i b) t)

pub within_yes : (from last i : ℕ) → from ≤ i → i ≤ last → within from last i ≡ true
within_yes from last i h k = rw (le-leb from i h) (le-leb i last k)

pub within_no : (from last i : ℕ) → (i < from) ⊎ (last < i) → within from last i ≡ false
within_no from last i (inl h) = rw (lt-leb from i h)
within_no from last i (inr h) = upper (leb from i)
  where
    upper : (t : Bool) → both t (leb i last) ≡ false
    upper true = lt-leb i last h
    upper false = refl

-- a place out of a range is none of it
pub beyond : (at n j i : ℕ) → at ≤ j → j < at + n → (i < at) ⊎ (at + n ≤ i) → eqb i j ≡ false
beyond at n j i h k (inl o) = ne_eqb i j (λ e. omega arith)
beyond at n j i h k (inr o) = ne_eqb i j (λ e. omega arith)

pub within_one : (at i : ℕ) → within at at i ≡ eqb i at
within_one at i = each (dec_lt i at) (dec_lt at i)
  where
    each : Dec (i < at) → Dec (at < i) → within at at i ≡ eqb i at
    each (yes y) z = within_no at at i (inl y) ∙ sym (ne_eqb i at (λ e. omega arith))
    each (no y) (yes z) = within_no at at i (inr z) ∙ sym (ne_eqb i at (λ e. omega arith))
    each (no y) (no z) = within_yes at at i (omega arith) (omega arith) ∙ sym (eq-eqb i at (omega arith))
