-- The turns of the loop over a number's digits: what is left of them decides.
use Rattle.std.specs.Prelude.{◌≡◌, refl, Bool, true, false, ◌&&◌, List, [], ◌∷◌, ℕ, ◌+◌, ◌-◌, ◌*◌, ◌≤◌, ◌<◌, ◌^◌, eqb, leb, ltb, length, get_or, take, drop, Option, Some, None}
use Rattle.std.specs.Option.{option_and_then}
use Rattle.std.specs.Cmp.Lexicographic.{pointwise}
use Rattle.std.proofs.Common.{sym, ◌∙◌, mul-le-mul_left, lt_of_le_of_lt, le_of_lt, add-one, arith, length-drop, drop_of_length-le, drop-cons, take_all, leb-true, le-ltb, lt-ltb, le-leb}
use Rattle.std.proofs.lemmas.Bool.{lt-leb}
use Rattle.words.specs.Choice.{pick, both}
use Rattle.words.proofs.Choice.{both_left, told, pick_yes, pick_no}
use Rattle.script_numbers.specs.Numbers.{digit_of, read_digits, digits_of, is_hexadecimal, number_of}

pub digits_start : (base most : ℕ) (l : List ℕ) → (length l ≡ 0 → ⊥) → read_digits base most (drop 0 l) 0 ≡ digits_of base most l
unfolding digits_of
digits_start base most [] n = absurd (n refl)
digits_start base most (c ∷ cs) n = refl

pub digits_none : (base most : ℕ) (l : List ℕ) → length l ≡ 0 → None ≡ digits_of base most l
unfolding digits_of
digits_none base most [] n = refl
digits_none base most (c ∷ cs) n = absurd (omega (arith, n))

digits_head : (base most v : ℕ) (l : List ℕ) (i : ℕ) → i < length l
    → read_digits base most (drop i l) v
    ≡ option_and_then (λ d.
    pick (leb base d) None
    (pick (ltb most (v * base + d)) None
    (read_digits base most (drop (i + 1) l) (v * base + d))))
    (digit_of (get_or l i 0))
unfolding read_digits
digits_head base most v l i h = rw (drop-cons l i 0 h, add-one)

-- the next character is no digit
pub digits_stop : (base most v : ℕ) (l : List ℕ) (i : ℕ) (r : Option ℕ) → i < length l → digit_of (get_or l i 0) ≡ None
    → read_digits base most (drop i l) v ≡ r → None ≡ r
digits_stop base most v l i r h e k = sym (rw e at (digits_head base most v l i h)) ∙ k

-- the next character is a digit d
digits_next : (base most v d : ℕ) (l : List ℕ) (i : ℕ) (r : Option ℕ) → i < length l → digit_of (get_or l i 0) ≡ Some d
    → read_digits base most (drop i l) v ≡ r
    → pick (leb base d) None (pick (ltb most (v * base + d)) None (read_digits base most (drop (i + 1) l) (v * base + d))) ≡ r
digits_next base most v d l i r h e k = sym (rw e at (digits_head base most v l i h)) ∙ k

pub digits_other : (base most v d : ℕ) (l : List ℕ) (i : ℕ) (r : Option ℕ) → i < length l → digit_of (get_or l i 0) ≡ Some d → base ≤ d
    → read_digits base most (drop i l) v ≡ r → None ≡ r
digits_other base most v d l i r h e t k = simp (le-leb base d t) at (digits_next base most v d l i r h e k)

pub digits_above : (base most v d n : ℕ) (l : List ℕ) (i : ℕ) (r : Option ℕ) → i < length l → digit_of (get_or l i 0) ≡ Some d → d < base
    → n ≡ v * base + d → most < n → read_digits base most (drop i l) v ≡ r → None ≡ r
digits_above base most v d n l i r h e t m g k =
    let w : ltb most (v * base + d) ≡ true = lt-ltb _ _ (rw m at g) in
    simp (lt-leb base d t, w) at (digits_next base most v d l i r h e k)

pub digits_more : (base most v d n : ℕ) (l : List ℕ) (i : ℕ) (r : Option ℕ) → i < length l → digit_of (get_or l i 0) ≡ Some d → d < base
    → n ≡ v * base + d → n ≤ most → read_digits base most (drop i l) v ≡ r → read_digits base most (drop (i + 1) l) n ≡ r
digits_more base most v d n l i r h e t m g k =
    let w : ltb most (v * base + d) ≡ false = le-ltb _ _ (rw m at g) in
    rw m (simp (lt-leb base d t, w) at (digits_next base most v d l i r h e k))

pub digits_end : (base most v : ℕ) (l : List ℕ) (i : ℕ) (r : Option ℕ) → length l ≤ i
    → read_digits base most (drop i l) v ≡ r → Some v ≡ r
unfolding read_digits
digits_end base most v l i r h k = rw (drop_of_length-le l {i = i} h) at k

-- ---- a number with one digit more

-- a product of 32 and 8 bits has 40 at most
pub product_fits : (v b : ℕ) → v < 2 ^ 32 → b < 2 ^ 8 → v * b < 2 ^ 40
product_fits v b h k = lt_of_le_of_lt (mul-le-mul_left v (le_of_lt k)) (omega (arith, h))

-- ---- a number with `0x`

nothing_behind : (t : Bool) → (t && false) ≡ false
nothing_behind true = refl
nothing_behind false = refl

both_characters : (t u : Bool) → (t && (u && true)) ≡ both t u
both_characters true true = refl
both_characters true false = refl
both_characters false u = refl

-- it has these two characters
begins : (w : List ℕ) → pointwise eqb (take 2 w) (48 ∷ 120 ∷ []) ≡ is_hexadecimal w
unfolding is_hexadecimal
begins [] = refl
begins (x ∷ []) = nothing_behind (eqb x 48)
begins (x ∷ y ∷ ys) =
    let long : leb 2 (length (x ∷ y ∷ ys)) ≡ true = le-leb 2 (length (x ∷ y ∷ ys)) (omega arith) in
    rw long (both_characters (eqb x 48) (eqb y 120))

pub hexadecimal_long : (w : List ℕ) (r : Bool) → r ≡ is_hexadecimal w → r ≡ true → 2 ≤ length w
unfolding is_hexadecimal
hexadecimal_long w r e t = leb-true 2 (length w) (both_left _ _ (sym e ∙ t))

-- all that is left behind the first n
tail_whole : (n : ℕ) (w : List ℕ) → take (length w - n) (drop n w) ≡ drop n w
tail_whole n w = take_all (length w - n) (drop n w) (omega (arith, length-drop n w))

pub hexadecimal_read : (most : ℕ) (w : List ℕ) (b : Bool) (r : Option ℕ) → b ≡ is_hexadecimal w → b ≡ true
    → r ≡ digits_of 16 most (take (length w - 2) (drop 2 w)) → r ≡ number_of most w
unfolding number_of
hexadecimal_read most w b r e t k = pick_yes _ _ _ _ (told _ _ _ e t) (rw (tail_whole 2 w) at k)

pub decimal_read : (most : ℕ) (w : List ℕ) (b : Bool) (r : Option ℕ) → b ≡ is_hexadecimal w → b ≡ false
    → r ≡ digits_of 10 most w → r ≡ number_of most w
unfolding number_of
decimal_read most w b r e t k = pick_no _ _ _ _ (told _ _ _ e t) k

-- the same by the library's test of the first two characters
pub prefix_read : (most : ℕ) (w x : List ℕ) (r : Option ℕ) → pointwise eqb (take 2 w) (48 ∷ 120 ∷ []) ≡ true → x ≡ drop 2 w
    → r ≡ digits_of 16 most x → r ≡ number_of most w
unfolding number_of
prefix_read most w x r t e k = pick_yes _ _ _ _ (sym (begins w) ∙ t) (rw e at k)

pub no_prefix_read : (most : ℕ) (w : List ℕ) (r : Option ℕ) → pointwise eqb (take 2 w) (48 ∷ 120 ∷ []) ≡ false
    → r ≡ digits_of 10 most w → r ≡ number_of most w
unfolding number_of
no_prefix_read most w r t k = pick_no _ _ _ _ (sym (begins w) ∙ t) k
