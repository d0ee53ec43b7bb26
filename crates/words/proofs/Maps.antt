-- Laws about the definitions of specs/Maps.antt.
use Rattle.std.specs.Prelude.{◌≡◌, refl, Bool, true, false, List, [], ◌∷◌, ◌⊎◌, ℕ, zero, suc, ◌+◌, ◌-◌, ◌<◌, ◌≤◌, length, get_or, set, replicate}
use Rattle.std.proofs.Common.{sym, ◌∙◌, ap, inl, inr, add-zero, zero-add, add-suc, suc-add, not-suc-le-zero, le_of_suc-le-suc, add-one, arith, ext_get_or}
use Rattle.std.proofs.Math.Decide.{dec_lt}
use Rattle.std.proofs.lemmas.List.{length-replicate, get_or-replicate}
use Rattle.words.specs.Choice.{pick}
use Rattle.words.proofs.Choice.{pick_yes, pick_no}
use Rattle.words.specs.Parts.{part, splice}
use Rattle.words.proofs.Parts.{length_part, get_or_part, length_splice, splice_below, splice_in, splice_above}
use Rattle.words.specs.Maps.{map_first, map_from}

pub length_map_from : (f : ℕ → ℕ → ℕ) (i : ℕ) (l : List ℕ) → length (map_from f i l) ≡ length l
unfolding map_from
length_map_from f i [] = refl
length_map_from f i (x ∷ xs) = ap suc (length_map_from f (suc i) xs)

pub get_or_map_from : (f : ℕ → ℕ → ℕ) (b : ℕ) (l : List ℕ) (i : ℕ) → i < length l → get_or (map_from f b l) i 0 ≡ f (b + i) (get_or l i 0)
unfolding map_from
get_or_map_from f b [] i h = absurd (not-suc-le-zero h)
get_or_map_from f b (x ∷ l) zero h = ap (λ (k : ℕ). f k x) (sym (add-zero b))
get_or_map_from f b (x ∷ l) (suc i) h =
    get_or_map_from f (suc b) l i (le_of_suc-le-suc h) ∙ ap (λ (k : ℕ). f k (get_or l i 0)) (suc-add b i ∙ sym (add-suc b i))

-- what is as long as r and has f of each place and element is the map of r
pub made_map : (f : ℕ → ℕ → ℕ) (l r : List ℕ) → length l ≡ length r
    → ((i : ℕ) → i < length r → get_or l i 0 ≡ f i (get_or r i 0)) → l ≡ map_from f 0 r
made_map f l r e each =
    ext_get_or 0 l (map_from f 0 r) (e ∙ sym (length_map_from f 0 r))
    (λ i h. let h' : i < length r = omega arith in
    each i h' ∙ sym (get_or_map_from f 0 r i h' ∙ ap (λ (k : ℕ). f k (get_or r i 0)) (zero-add i)))

pub map_cong : (f g : ℕ → ℕ → ℕ) (at : ℕ) (r : List ℕ) → ((i b : ℕ) → f i b ≡ g i b) → map_from f at r ≡ map_from g at r
map_cong f g at r e = λ j. map_from (λ i b. e i b j) at r

pub map_map : (f g : ℕ → ℕ → ℕ) (at : ℕ) (r : List ℕ) → map_from f at (map_from g at r) ≡ map_from (λ i b. f i (g i b)) at r
unfolding map_from
map_map f g at [] = refl
map_map f g at (x ∷ xs) = ap (λ (l : List ℕ). f at (g at x) ∷ l) (map_map f g (suc at) xs)

pub map_same : (at : ℕ) (r : List ℕ) → map_from (λ i b. b) at r ≡ r
unfolding map_from
map_same at [] = refl
map_same at (x ∷ xs) = ap (λ (l : List ℕ). x ∷ l) (map_same (suc at) xs)

pub replicate_map : (v : ℕ) (r : List ℕ) (n : ℕ) → length r ≡ n → replicate n v ≡ map_from (λ i b. v) 0 r
replicate_map v r n e = made_map (λ i b. v) (replicate n v) r (length-replicate n v ∙ sym e) (λ i h. get_or-replicate n i v 0 (omega arith))

-- a splice is a map by f, where f gives what is put there and leaves the rest
pub splice_map : (f : ℕ → ℕ → ℕ) (at n : ℕ) (ys r : List ℕ) → length ys ≡ n → at + n ≤ length r
    → ((i : ℕ) → at ≤ i → i < at + n → get_or ys (i - at) 0 ≡ f i (get_or r i 0))
    → ((i : ℕ) → (i < at) ⊎ (at + n ≤ i) → get_or r i 0 ≡ f i (get_or r i 0))
    → splice at ys r ≡ map_from f 0 r
splice_map f at n ys r long h inside outside =
    made_map f (splice at ys r) r (length_splice at ys r fits) (λ i k. each i (dec_lt i at) (dec_lt i (at + n)))
  where
    fits : at + length ys ≤ length r
    fits = omega arith

    each : (i : ℕ) → Dec (i < at) → Dec (i < at + n) → get_or (splice at ys r) i 0 ≡ f i (get_or r i 0)
    each i (yes y) z = splice_below at ys r fits i y ∙ outside i (inl y)
    each i (no y) (yes z) = splice_in at ys r fits i (omega arith) (omega arith) ∙ inside i (omega arith) z
    each i (no y) (no z) = splice_above at ys r fits i (omega arith) ∙ outside i (inr (omega arith))

-- the same of a part of xs that is copied: t tells the places, and p where each has its element in xs
pub copy_map : (t : ℕ → Bool) (p : ℕ → ℕ) (at from n : ℕ) (xs r : List ℕ) → from + n ≤ length xs → at + n ≤ length r
    → ((i : ℕ) → at ≤ i → i < at + n → t i ≡ true) → ((i : ℕ) → (i < at) ⊎ (at + n ≤ i) → t i ≡ false)
    → ((i : ℕ) → at ≤ i → i < at + n → from + (i - at) ≡ p i)
    → splice at (part from n xs) r ≡ map_from (λ i b. pick (t i) (get_or xs (p i) 0) b) 0 r
copy_map t p at from n xs r h k inside outside place =
    splice_map _ at n (part from n xs) r (length_part from n xs h) k
    (λ i l m. get_or_part from n xs (i - at) (omega arith)
    ∙ ap (λ (j : ℕ). get_or xs j 0) (place i l m)
    ∙ pick_yes (t i) _ _ _ (inside i l m) refl)
    (λ i o. pick_no (t i) _ _ _ (outside i o) refl)

-- ---- the loop

length_map_first : (f : ℕ → ℕ → ℕ) (i n : ℕ) (l : List ℕ) → length (map_first f i n l) ≡ length l
unfolding map_first
length_map_first f i zero l = refl
length_map_first f i (suc n) [] = refl
length_map_first f i (suc n) (x ∷ xs) = ap suc (length_map_first f (suc i) n xs)

-- the element at n is still the old one
old_map_first : (f : ℕ → ℕ → ℕ) (i n : ℕ) (l : List ℕ) → get_or (map_first f i n l) n 0 ≡ get_or l n 0
unfolding map_first
old_map_first f i zero l = refl
old_map_first f i (suc n) [] = refl
old_map_first f i (suc n) (x ∷ xs) = old_map_first f (suc i) n xs

more_map_first : (f : ℕ → ℕ → ℕ) (i n : ℕ) (l : List ℕ) → n < length l
    → set (map_first f i n l) n (f (i + n) (get_or l n 0)) ≡ map_first f i (suc n) l
unfolding map_first
more_map_first f i zero [] h = refl
more_map_first f i zero (x ∷ xs) h = rw add-zero
more_map_first f i (suc n) [] h = refl
more_map_first f i (suc n) (x ∷ xs) h =
    ap (λ (t : List ℕ). f i x ∷ t) (rw (add-suc, ← suc-add) (more_map_first f (suc i) n xs (omega arith)))

all_map_first : (f : ℕ → ℕ → ℕ) (i : ℕ) (l : List ℕ) → map_first f i (length l) l ≡ map_from f i l
unfolding map_first map_from
all_map_first f i [] = refl
all_map_first f i (x ∷ xs) = ap (λ (t : List ℕ). f i x ∷ t) (all_map_first f (suc i) xs)

-- The laws of a loop that replaces the elements one by one, with the premises that the loop offers: m is the list at the loop's head.
pub none_map_first : (f : ℕ → ℕ → ℕ) (i : ℕ) (l : List ℕ) → l ≡ map_first f i 0 l
unfolding map_first
none_map_first f i l = refl

pub step_map_first : (f : ℕ → ℕ → ℕ) (i n : ℕ) (l m : List ℕ) (b : ℕ) → m ≡ map_first f i n l → n < length m
    → b ≡ f (i + n) (get_or m n 0) → set m n b ≡ map_first f i (n + 1) l
step_map_first f i n l m b e h w =
    rw (add-one, w, e, old_map_first) (more_map_first f i n l (omega (arith, simp (e, length_map_first) at h)))

pub done_map_first : (f : ℕ → ℕ → ℕ) (i n : ℕ) (l m : List ℕ) → m ≡ map_first f i n l → length m ≤ n → n ≤ length l → m ≡ map_from f i l
done_map_first f i n l m e p q =
    let k : n ≡ length l = omega (arith, simp (e, length_map_first) at p) in
    e ∙ (rw k (all_map_first f i l))
