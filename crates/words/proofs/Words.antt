-- Laws about the definitions of specs/Words.antt.
use Rattle.std.specs.Prelude.{◌≡◌, refl, List, [], ◌∷◌, ℕ, zero, suc, ◌+◌, ◌*◌, ◌/◌, ◌%◌, ◌^◌, ◌<◌, length}
use Rattle.std.proofs.Common.{sym, ◌∙◌, ap, pow-suc, div-lt_iff_lt-mul, mod-eq_of_lt, arith, lit<}
use Rattle.std.proofs.Math.Nat.{pow-succ'}
use Rattle.std.proofs.Math.Arith.{mod-mul}
use Rattle.words.specs.Words.{AreBytes, be_bytes, be_value, le_bytes, le_value}

-- Reading undoes writing: the n bytes of a number that n bytes hold are the number again.
pub le_round : (n v : ℕ) → v < 256 ^ n → le_value (le_bytes n v) ≡ v
unfolding le_value le_bytes
le_round zero v h = omega arith
le_round (suc n) v h =
    let k : v < 256 ^ n * 256 = rw pow-suc at h in
    let i : le_value (le_bytes n (v / 256)) ≡ v / 256 = le_round n (v / 256) ((div-lt_iff_lt-mul (lit< tt)).1 k) in
    omega arith

-- Writing undoes reading: bytes, read as a number, are that number's bytes.
pub le_back : (l : List ℕ) → AreBytes l → le_bytes (length l) (le_value l) ≡ l
unfolding le_value le_bytes
le_back [] a = refl
le_back (b ∷ l) a =
    let e : (b + 256 * le_value l) % 256 ≡ b = omega (arith, a 0) in
    let f : (b + 256 * le_value l) / 256 ≡ le_value l = omega (arith, a 0) in
    rw (e, f, le_back l (λ i. a (suc i)))

pub length_le_bytes : (n v : ℕ) → length (le_bytes n v) ≡ n
unfolding le_bytes
length_le_bytes zero v = refl
length_le_bytes (suc n) v = ap suc (length_le_bytes n (v / 256))

pub length_be_bytes : (n v : ℕ) → length (be_bytes n v) ≡ n
unfolding be_bytes
length_be_bytes zero v = refl
length_be_bytes (suc n) v = ap suc (length_be_bytes n v)

pow_above : (n : ℕ) → 0 < 256 ^ n
pow_above zero = lit< tt
pow_above (suc n) = let h : 0 < 256 ^ n = pow_above n in rw pow-suc (omega arith)

-- The same for the other order.
be_low : (n v : ℕ) → be_value (be_bytes n v) ≡ v % 256 ^ n
unfolding be_value be_bytes
be_low zero v = omega arith
be_low (suc n) v =
    ap (λ (k : ℕ). v / 256 ^ n % 256 * 256 ^ k + be_value (be_bytes n v)) (length_be_bytes n v)
    ∙ ap (λ (k : ℕ). v / 256 ^ n % 256 * 256 ^ n + k) (be_low n v)
    ∙ sym (mod-mul v (lit< tt) (pow_above n)) ∙ ap (λ (k : ℕ). v % k) (sym (pow-succ' 256 n))

pub be_round : (n v : ℕ) → v < 256 ^ n → be_value (be_bytes n v) ≡ v
be_round n v h = be_low n v ∙ mod-eq_of_lt h
