-- What shifts and masks make of a word's fields, in the definitions' terms.
use Rattle.std.specs.Prelude.{◌≡◌, refl, Bool, true, false, ℕ, zero, suc, ◌+◌, ◌-◌, ◌*◌, ◌/◌, ◌%◌, ◌^◌, ◌≤◌, ◌<◌, eqb}
use Rattle.std.proofs.Common.{sym, ◌∙◌, ap, mod-eq_of_lt, mod-lt, arith, eq-eqb, ne_eqb, lit<, shr-shr}
use Rattle.std.specs.Int.{from_bool}
use Rattle.std.specs.Int.Bits.{bit_and, bit_or, or_shifted_r}
use Rattle.std.proofs.lemmas.Nat.{and_mask}
use Rattle.std.proofs.Math.Pow.{split}
use Rattle.words.specs.Words.{bits}
use Rattle.hcr.specs.Register.{bit, well_formed18, word18}

-- A field taken out: shifted to the right end, then masked.
pub masked : (hi lo w : ℕ) → bit_and (w / 2 ^ lo) (2 ^ (hi - lo + 1) - 1) ≡ bits hi lo w
unfolding bits
masked hi lo w = and_mask (w / 2 ^ lo) (hi - lo + 1)

-- The same for a field that stands at the right end.
pub masked_low : (hi w : ℕ) → bit_and w (2 ^ (hi + 1) - 1) ≡ bits hi 0 w
unfolding bits
masked_low hi w =
    let e : hi + 1 ≡ hi - 0 + 1 = omega arith in
    let f : w ≡ w / 1 = omega arith in
    and_mask w (hi + 1) ∙ ap (λ (k : ℕ). w % 2 ^ k) e ∙ ap (λ (x : ℕ). x % 2 ^ (hi - 0 + 1)) f

-- A word from a field's lower end up is the word above the field, and the field.
pub above : (hi lo w : ℕ) → lo ≤ hi → w / 2 ^ lo ≡ w / 2 ^ (hi + 1) * 2 ^ (hi - lo + 1) + bits hi lo w
unfolding bits
above hi lo w h =
    let e : lo + (hi - lo + 1) ≡ hi + 1 = omega arith in
    sym (split (w / 2 ^ lo) (hi - lo + 1))
    ∙ ap (λ (x : ℕ). x * 2 ^ (hi - lo + 1) + w / 2 ^ lo % 2 ^ (hi - lo + 1)) (shr-shr w lo (hi - lo + 1) ∙ ap (λ (k : ℕ). w / 2 ^ k) e)

-- A field of one bit is a bit.
pub bit_lt : (at w : ℕ) → bits at at w < 2
unfolding bits
bit_lt at w =
    let e : at - at + 1 ≡ 1 = omega arith in
    rw e (mod-lt (w / 2 ^ at) (lit< tt))

-- A field put in, above what is there: in a word of n bits.
pub joins : (k n a b : ℕ) → b < 2 ^ k → a * 2 ^ k < 2 ^ n → bit_or b (a * 2 ^ k % 2 ^ n) ≡ a * 2 ^ k + b
joins k n a b low fits = ap (bit_or b) (mod-eq_of_lt fits) ∙ or_shifted_r a k b low

pub bit_small : (e : Bool) → bit e < 2
bit_small true = lit< tt
bit_small false = lit< tt

-- The test of a flag's bit gives the flag, and the bit of a tested bit is that bit.
pub bit_tested : (e : Bool) → eqb (bit e) 1 ≡ e
bit_tested true = refl
bit_tested false = refl

pub tested_bit : (x : ℕ) → x < 2 → bit (eqb x 1) ≡ x
tested_bit zero h = refl
tested_bit (suc zero) h = refl
tested_bit (suc (suc x)) h = absurd (omega arith)

-- A test of a number that a call answered: r is its answer, and n what its contract says that it is.
pub told_is : (r n k : ℕ) → r ≡ n → r ≡ k → eqb n k ≡ true
told_is r n k p q = eq-eqb n k (sym p ∙ q)

pub told_not : (r n k : ℕ) → r ≡ n → (r ≡ k → ⊥) → eqb n k ≡ false
told_not r n k p q = ne_eqb n k (λ e. q (p ∙ e))

pub told_test : (r n k : ℕ) → r ≡ n → eqb r k ≡ eqb n k
told_test r n k p = ap (λ (x : ℕ). eqb x k) p

-- The same of two words that were read: w is the word that the caller has, v the one that the reader's contract says it is.
pub told_formed : (r t : Bool) (w v : ℕ) → r ≡ well_formed18 w → w ≡ v → r ≡ t → well_formed18 v ≡ t
told_formed r t w v p q e = ap well_formed18 (sym q) ∙ sym p ∙ e

pub told_below : (r w v : ℕ) → r ≡ bits 15 0 w → w ≡ v → eqb r 0 ≡ eqb (bits 15 0 v) 0
told_below r w v p q = told_test r (bits 15 0 v) 0 (p ∙ ap (bits 15 0) q)

-- The library's number of a flag is its bit.
pub bit_is : (e : Bool) → from_bool e ≡ bit e
bit_is true = refl
bit_is false = refl

-- Word 18h as the code joins it: op, op_modifier, E and go.
pub joined18 : (o m b : ℕ) (e : Bool) → b ≡ bit e → o ≤ 0xfff → m < 2 ^ 8
    → bit_or (bit_or (bit_or o (m * 2 ^ 12 % 2 ^ 32)) (b * 2 ^ 22 % 2 ^ 32)) (2 ^ 23) ≡ word18 e m o
unfolding word18
joined18 o m b e f ho hm =
    ap (λ (x : ℕ). bit_or (bit_or x (b * 2 ^ 22 % 2 ^ 32)) (2 ^ 23)) (joins 12 32 m o (omega arith) (omega arith))
    ∙ ap (λ (x : ℕ). bit_or x (2 ^ 23)) (joins 22 32 b (m * 2 ^ 12 + o) (omega arith) (omega (arith, small)))
    ∙ or_shifted_r 1 23 (b * 2 ^ 22 + (m * 2 ^ 12 + o)) (omega (arith, small))
    ∙ last
  where
    small : b < 2
    small = rw f (bit_small e)

    last : 1 * 2 ^ 23 + (b * 2 ^ 22 + (m * 2 ^ 12 + o)) ≡ 1 * 2 ^ 23 + bit e * 2 ^ 22 + m * 2 ^ 12 + o
    last = rw (← f) (omega arith)
