-- The library's words for what a line has, as the definitions have it, and the turns of the loop over a line: what is left of it decides.
use Rattle.std.specs.Prelude.{◌≡◌, refl, Bool, true, false, not, cond, ◌&&◌, List, [], ◌∷◌, ℕ, zero, suc, Option, Some, None, ◌+◌, ◌-◌, ◌≤◌, ◌<◌, eqb, ltb, length, get_or, take, drop, count_by}
use Rattle.std.specs.List.{position_or_len, position}
use Rattle.std.specs.Option.{unwrap_or}
use Rattle.std.specs.Cmp.Lexicographic.{pointwise}
use Rattle.std.proofs.Common.{sym, ◌∙◌, ap, add_assoc, add-one, arith, eq-eqb, ne_eqb, length-drop, take_all, ltb-false, drop_of_length-le, drop-cons}
use Rattle.std.proofs.lemmas.List.Sums.{sum_by-cons, prefix_len-le-length}
use Rattle.words.specs.Choice.{pick}
use Rattle.script_words.specs.Words.{parts, one, spaces, behind, first_length, word_at, same_word}

-- nothing is left at the end
gone : (l : List ℕ) (i : ℕ) → length l ≤ i → drop i l ≡ []
gone l i h = drop_of_length-le l {i = i} h

-- the next character, and what is left behind it
next : (l : List ℕ) (i : ℕ) → i < length l → drop i l ≡ get_or l i 0 ∷ drop (i + 1) l
next l i h = rw add-one (drop-cons l i 0 h)

-- ---- the count of spaces

one_or : (t : Bool) (n m : ℕ) → cond t n m ≡ pick t n m
one_or true n m = refl
one_or false n m = refl

pub spaces_counted : (l : List ℕ) → count_by (λ x. eqb x 32) l ≡ spaces l
unfolding spaces
spaces_counted [] = refl
spaces_counted (x ∷ xs) = sum_by-cons (λ y. cond (eqb y 32) 1 0) x xs ∙ (rw (one_or (eqb x 32) 1 0, spaces_counted xs))

-- the count, character by character
pub spaces_more : (l : List ℕ) (n i c s : ℕ) → i < length l → c ≡ one (get_or l i 0)
    → n + spaces (drop i l) ≡ s → n + c + spaces (drop (i + 1) l) ≡ s
unfolding spaces
spaces_more l n i c s h t e =
    let k : n + (one (get_or l i 0) + spaces (drop (i + 1) l)) ≡ s = rw (next l i h) at e in
    rw t (add_assoc n _ _ ∙ k)

pub spaces_end : (l : List ℕ) (n i s : ℕ) → length l ≤ i → n + spaces (drop i l) ≡ s → n + 1 ≡ s + 1
unfolding spaces
spaces_end l n i s h e =
    let k : n + 0 ≡ s = rw (gone l i h) at e in
    omega (arith, k)

-- ---- where a word starts

none_behind : (l : List ℕ) → behind l 0 ≡ l
unfolding behind
none_behind [] = refl
none_behind (x ∷ xs) = refl

pub behind_found : (l m : List ℕ) (k i : ℕ) → k ≡ 0 → behind (drop i l) k ≡ m → drop i l ≡ m
behind_found l m k i z e = sym (none_behind (drop i l)) ∙ (rw z at e)

one_behind : (x : ℕ) (xs : List ℕ) (k : ℕ) → (k ≡ 0 → ⊥) → behind (x ∷ xs) k ≡ behind xs (k - one x)
unfolding behind
one_behind x xs zero z = absurd (z refl)
one_behind x xs (suc k) z = refl

pub behind_more : (l m : List ℕ) (k i c : ℕ) → i < length l → (k ≡ 0 → ⊥) → c ≡ one (get_or l i 0)
    → behind (drop i l) k ≡ m → behind (drop (i + 1) l) (k - c) ≡ m
behind_more l m k i c h z t e = rw t (sym (one_behind (get_or l i 0) (drop (i + 1) l) k z) ∙ (rw (next l i h) at e))

pub behind_end : (l m : List ℕ) (k i : ℕ) → length l ≤ i → behind (drop i l) k ≡ m → drop (length l) l ≡ m
unfolding behind
behind_end l m k i h e = rw (gone l (length l) (omega arith)) (rw (gone l i h) at e)

-- ---- where a word ends

length_or : (t : Bool) (n m : ℕ) → n ≡ m → cond (not t) (1 + n) 0 ≡ pick t 0 (suc m)
length_or true n m e = refl
length_or false n m e = rw e (omega arith)

first_counted : (l : List ℕ) → position_or_len (λ x. eqb x 32) l ≡ first_length l
unfolding first_length
first_counted [] = refl
first_counted (x ∷ xs) = length_or (eqb x 32) _ _ (first_counted xs)

bounded : (l : List ℕ) → position_or_len (λ x. eqb x 32) l ≤ length l
bounded l = prefix_len-le-length _ l

or_length : (t : Bool) (m n : ℕ) → m ≤ n → ltb m n ≡ t → unwrap_or (cond t (Some m) None) n ≡ m
or_length true m n h e = refl
or_length false m n h e = omega (arith, h, ltb-false m n e)

pub first_or_all : (l : List ℕ) (f : Option ℕ) (n : ℕ) → f ≡ position (λ x. eqb x 32) l → n ≡ unwrap_or f (length l)
    → (n ≤ length l) × (n ≡ first_length l)
first_or_all l f n p q =
    let found : n ≡ position_or_len (λ x. eqb x 32) l = q ∙ (rw p (or_length _ _ _ (bounded l) refl)) in
    (omega (arith, found, bounded l), found ∙ first_counted l)

-- the length, character by character
first_head : (l : List ℕ) (i : ℕ) → i < length l
    → first_length (drop i l) ≡ pick (parts (get_or l i 0)) 0 (suc (first_length (drop (i + 1) l)))
unfolding first_length
first_head l i h = rw (next l i h)

pub first_found : (l : List ℕ) (i n : ℕ) → i < length l → get_or l i 0 ≡ 32 → i + first_length (drop i l) ≡ n → i ≡ n
first_found l i n h t e =
    let k : first_length (drop i l) ≡ 0 = simp (eq-eqb _ _ t) at (first_head l i h) in
    omega (arith, k, e)

pub first_more : (l : List ℕ) (i n : ℕ) → i < length l → (get_or l i 0 ≡ 32 → ⊥) → i + first_length (drop i l) ≡ n
    → i + 1 + first_length (drop (i + 1) l) ≡ n
first_more l i n h t e =
    let k : first_length (drop i l) ≡ suc (first_length (drop (i + 1) l)) = simp (ne_eqb _ _ t) at (first_head l i h) in
    omega (arith, k, e)

pub first_end : (l : List ℕ) (i n : ℕ) → length l ≤ i → i + first_length (drop i l) ≡ n → i ≡ n
unfolding first_length
first_end l i n h e =
    let k : i + 0 ≡ n = rw (gone l i h) at e in
    omega (arith, k)

-- all that is left from `from` on
tail_whole : (from : ℕ) (l : List ℕ) → take (length l - from) (drop from l) ≡ drop from l
tail_whole from l = take_all (length l - from) (drop from l) (omega (arith, length-drop from l))

pub end_of : (l : List ℕ) (from n : ℕ) → from ≤ length l → n ≤ length (take (length l - from) (drop from l)) → n ≡ first_length (take (length l - from) (drop from l))
    → (from + n ≤ length l) × (from + n ≡ from + first_length (drop from l))
end_of l from n h b e =
    let few : n ≤ length (drop from l) = rw (tail_whole from l) at b in
    (omega (arith, h, few, length-drop from l), rw (e, tail_whole from l))

-- ---- whether two words are the same

both_same : (t u v : Bool) → u ≡ v → (t && u) ≡ pick t v false
both_same true u v e = e
both_same false u v e = refl

same_compared : (a b : List ℕ) → pointwise eqb a b ≡ same_word a b
unfolding same_word
same_compared [] [] = refl
same_compared [] (y ∷ ys) = refl
same_compared (x ∷ xs) [] = refl
same_compared (x ∷ xs) (y ∷ ys) = both_same (eqb x y) _ _ (same_compared xs ys)

pub same_told : (a b : List ℕ) (r : Bool) → r ≡ pointwise eqb a b → r ≡ same_word a b
same_told a b r e = e ∙ same_compared a b

-- all that there is
pub whole : (l : List ℕ) (n : ℕ) → n ≡ length l → take n l ≡ l
whole l n e = take_all n l (omega (arith, e))

-- the code may compare slices x and y that are all of a and b
pub same_as : (a b x y : List ℕ) (r : Bool) → r ≡ pointwise eqb x y → x ≡ a → y ≡ b → r ≡ same_word a b
same_as a b x y r e p q = same_told a b r (e ∙ (rw (p, q) refl))

-- the comparison, character by character
same_head : (a b : List ℕ) (i : ℕ) → i < length a → i < length b
    → same_word (drop i a) (drop i b) ≡ pick (eqb (get_or a i 0) (get_or b i 0)) (same_word (drop (i + 1) a) (drop (i + 1) b)) false
unfolding same_word
same_head a b i h g = rw (next a i h, next b i g)

pub same_other : (a b : List ℕ) (i : ℕ) (r : Bool) → length a ≡ length b → i < length a → (get_or a i 0 ≡ get_or b i 0 → ⊥)
    → same_word (drop i a) (drop i b) ≡ r → false ≡ r
same_other a b i r n h t e = sym (simp (ne_eqb _ _ t) at (same_head a b i h (omega (arith, n)))) ∙ e

pub same_more : (a b : List ℕ) (i : ℕ) (r : Bool) → length a ≡ length b → i < length a → get_or a i 0 ≡ get_or b i 0
    → same_word (drop i a) (drop i b) ≡ r → same_word (drop (i + 1) a) (drop (i + 1) b) ≡ r
same_more a b i r n h t e = simp (eq-eqb _ _ t) at (sym (same_head a b i h (omega (arith, n))) ∙ e)

pub same_end : (a b : List ℕ) (i : ℕ) (r : Bool) → length a ≡ length b → length a ≤ i
    → same_word (drop i a) (drop i b) ≡ r → true ≡ r
unfolding same_word
same_end a b i r n h e = rw (gone a i h, gone b i (omega (arith, n))) at e

either_way : (b r : Bool) → false ≡ r → false ≡ pick b r false
either_way true r e = e
either_way false r e = refl

-- words of other lengths differ
pub same_lengths : (a b : List ℕ) → (length a ≡ length b → ⊥) → false ≡ same_word a b
unfolding same_word
same_lengths [] [] n = absurd (n refl)
same_lengths [] (y ∷ ys) n = refl
same_lengths (x ∷ xs) [] n = refl
same_lengths (x ∷ xs) (y ∷ ys) n = either_way (eqb x y) (same_word xs ys) (same_lengths xs ys (λ e. n (ap suc e)))

-- ---- the word between its start and its end

pub word_cut : (l : List ℕ) (k a e : ℕ) → drop a l ≡ behind l k → e ≡ a + first_length (drop a l) → take (e - a) (drop a l) ≡ word_at k l
unfolding word_at
word_cut l k a e p q =
    let n : e - a ≡ first_length (drop a l) = omega (arith, q) in
    rw (n, p)
