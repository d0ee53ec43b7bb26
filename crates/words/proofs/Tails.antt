-- What stands behind the places that are read or replaced: it is not looked at, and it stays.
use Rattle.std.specs.Prelude.{◌≡◌, refl, List, [], ◌∷◌, ◌++◌, ℕ, zero, suc, ◌+◌, ◌≤◌, length, take, drop}
use Rattle.std.proofs.Common.{sym, ◌∙◌, ap, append_assoc, zero-add, suc-add, arith, length-append, length-drop, length-take-le, drop_at}
use Rattle.std.proofs.lemmas.List.{take-append-le, drop-append-le}
use Rattle.words.specs.Parts.{part, splice}

-- a front is the front of its own length: a list that is too short gives all that it has
pub take_front : {A : Type 0} (n m : ℕ) (l : List A) → length (take n l) ≡ m → take n l ≡ take m l
take_front {A = A} n m l e = own n l ∙ ap (λ (k : ℕ). take k l) e
  where
    own : (k : ℕ) (xs : List A) → take k xs ≡ take (length (take k xs)) xs
    own zero xs = refl
    own (suc k) [] = refl
    own (suc k) (x ∷ xs) = ap (λ (ys : List A). x ∷ ys) (own k xs)

-- a part that lies in r is the same with t behind r
pub part_left : (at n : ℕ) (r t : List ℕ) → at + n ≤ length r → part at n (r ++ t) ≡ part at n r
unfolding part
part_left at n r t h =
    ap (take n) (drop-append-le at r t (omega arith)) ∙ take-append-le n (drop at r) t (simp length-drop (omega arith))

-- and one that lies in t stands as far behind r
drop_past : (r t : List ℕ) (at : ℕ) → drop (length r + at) (r ++ t) ≡ drop at t
drop_past [] t at = ap (λ (n : ℕ). drop n t) (zero-add at)
drop_past (x ∷ r) t at = ap (λ (n : ℕ). drop n (x ∷ r ++ t)) (suc-add (length r) at) ∙ drop_past r t at

pub part_right : (at n : ℕ) (r t : List ℕ) → part (length r + at) n (r ++ t) ≡ part at n t
unfolding part
part_right at n r t = ap (take n) (drop_past r t at)

-- what is replaced in r leaves t behind it
pub splice_left : (at : ℕ) (ys r t : List ℕ) → at + length ys ≤ length r → splice at ys (r ++ t) ≡ splice at ys r ++ t
unfolding splice
splice_left at ys r t h =
    rw (take-append-le at r t (omega arith), drop-append-le (at + length ys) r t h) (simp append_assoc)

-- what is replaced leaves all that stands behind it, its length too
pub splice_rest : (at : ℕ) (ys l : List ℕ) → at + length ys ≤ length l
    → drop (at + length ys) (splice at ys l) ≡ drop (at + length ys) l
unfolding splice
splice_rest at ys l h =
    ap (drop (at + length ys)) (sym (append_assoc (take at l) ys (drop (at + length ys) l)))
    ∙ drop_at (take at l ++ ys) (drop (at + length ys) l) (at + length ys) long
  where
    long : length (take at l ++ ys) ≡ at + length ys
    long = length-append (take at l) ys ∙ ap (λ (n : ℕ). n + length ys) (length-take-le at l (omega arith))
