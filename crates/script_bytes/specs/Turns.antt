-- What the functions over a word and over bytes have in hand, turned into what the definitions ask.
use Rattle.std.specs.Prelude.{◌≡◌, refl, Bool, true, false, ◌&&◌, min, is_some, List, [], ◌∷◌, ℕ, ◌+◌, ◌≤◌, ◌<◌, length, get_or, set, drop, Option}
use Rattle.std.specs.List.{list_all}
use Rattle.std.proofs.Common.{sym, ◌∙◌, zero-add, add-one, arith, drop_of_length-le, drop-cons, length-take-le}
use Rattle.words.specs.Choice.{pick}
use Rattle.words.specs.Maps.{map_first}
use Rattle.words.proofs.Maps.{step_map_first}
use Rattle.script_numbers.specs.Numbers.{digit_of}
use Rattle.script_bytes.specs.Bytes.{all_digits, Front}

both_digits : (t u v : Bool) → u ≡ v → (t && u) ≡ pick t v false
both_digits true u v e = e
both_digits false u v e = refl

digits_all : (l : List ℕ) → list_all (λ x. is_some (digit_of x)) l ≡ all_digits l
unfolding all_digits
digits_all [] = refl
digits_all (x ∷ xs) = both_digits (is_some (digit_of x)) _ _ (digits_all xs)

pub digits_told : (l : List ℕ) (r : Bool) → r ≡ list_all (λ x. is_some (digit_of x)) l → r ≡ all_digits l
digits_told l r e = e ∙ digits_all l

-- the digits, character by character
digits_head : (l : List ℕ) (i : ℕ) → i < length l
    → all_digits (drop i l) ≡ pick (is_some (digit_of (get_or l i 0))) (all_digits (drop (i + 1) l)) false
unfolding all_digits
digits_head l i h = rw (drop-cons l i 0 h, add-one)

pub digits_other : (l : List ℕ) (i : ℕ) (d : Option ℕ) (r : Bool) → i < length l → d ≡ digit_of (get_or l i 0) → is_some d ≡ false
    → all_digits (drop i l) ≡ r → false ≡ r
digits_other l i d r h e t k =
    let u : is_some (digit_of (get_or l i 0)) ≡ false = rw e at t in
    sym (simp u at (digits_head l i h)) ∙ k

pub digits_more : (l : List ℕ) (i : ℕ) (d : Option ℕ) (r : Bool) → i < length l → d ≡ digit_of (get_or l i 0) → is_some d ≡ true
    → all_digits (drop i l) ≡ r → all_digits (drop (i + 1) l) ≡ r
digits_more l i d r h e t k =
    let u : is_some (digit_of (get_or l i 0)) ≡ true = rw e at t in
    sym (simp u at (digits_head l i h)) ∙ k

pub digits_end : (l : List ℕ) (i : ℕ) (r : Bool) → length l ≤ i → all_digits (drop i l) ≡ r → true ≡ r
unfolding all_digits
digits_end l i r h k = rw (drop_of_length-le l {i = i} h) at k

-- a turn of a loop that replaces the elements one by one, from the first on
pub step_first : (f : ℕ → ℕ → ℕ) (n : ℕ) (l m : List ℕ) (b : ℕ) → m ≡ map_first f 0 n l → n < length m → b ≡ f n (get_or m n 0)
    → set m n b ≡ map_first f 0 (n + 1) l
step_first f n l m b e h w = step_map_first f 0 n l m b e h (rw (zero-add n) w)

-- ---- the lesser of a number and a length

pub front_least : (n : ℕ) (l : List ℕ) (r : ℕ) → r ≡ min n (length l) → Front n l r
front_least n l r e =
    let within : r ≤ length l = omega (arith, e) in
    (e, within, sym (length-take-le r l within))

pub front_all : (n : ℕ) (l : List ℕ) → length l < n → Front n l (length l)
front_all n l h = front_least n l (length l) (omega (arith, h))

pub front_some : (n : ℕ) (l : List ℕ) → n ≤ length l → Front n l n
front_some n l h = front_least n l n (omega (arith, h))
