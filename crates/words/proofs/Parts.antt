-- Laws about the definitions of specs/Parts.antt.
use Rattle.std.specs.Prelude.{◌≡◌, refl, List, [], ◌∷◌, ◌++◌, ◌⊎◌, ℕ, suc, ◌+◌, ◌-◌, ◌≤◌, ◌<◌, set, take}
use Rattle.std.proofs.Common.{sym, ◌∙◌, append-nil, inl, inr, zero-add, arith, length-append, length-drop, length-take-le, drop-drop, ext_get_or}
use Rattle.std.proofs.Math.Path.{ap}
use Rattle.std.proofs.Math.Decide.{dec_lt}
use Rattle.std.proofs.Math.ListN.{length, get_or, drop, length-take, get_or-append}
use Rattle.std.proofs.Math.Seq.{drop-length, get_or-append-add, get_or-take, get_or-drop}
use Rattle.words.specs.Parts.{part, splice}

-- the shape that a lent part leaves: the part's new contents between what stood before and behind it
pub lent_splice : (at n : ℕ) (ys l : List ℕ) → length ys ≡ n → take at l ++ (ys ++ drop n (drop at l)) ≡ splice at ys l
unfolding splice
lent_splice at n ys l e = simp (drop-drop, e)

pub length_part : (at n : ℕ) (l : List ℕ) → at + n ≤ length l → length (part at n l) ≡ n
unfolding part
length_part at n l h = simp (length-take, length-drop) (omega arith)

pub get_or_part : (at n : ℕ) (l : List ℕ) (i : ℕ) → i < n → get_or (part at n l) i 0 ≡ get_or l (at + i) 0
unfolding part
get_or_part at n l i h = rw (get_or-take, get_or-drop)

module _ (at : ℕ) (ys l : List ℕ) (fits : at + length ys ≤ length l) where
  pub length_splice : length (splice at ys l) ≡ length l
  unfolding splice
  length_splice = simp (length-append, length-take, length-drop) (omega arith)

  front : length (take at l) ≡ at
  front = length-take-le at l (omega arith)

  pub splice_below : (i : ℕ) → i < at → get_or (splice at ys l) i 0 ≡ get_or l i 0
  unfolding splice
  splice_below i h = get_or-append (take at l) _ 0 i (omega (arith, front)) ∙ get_or-take at l i 0 h

  pub splice_at : (i : ℕ) → i < length ys → get_or (splice at ys l) (at + i) 0 ≡ get_or ys i 0
  unfolding splice
  splice_at i h =
      ap (λ (k : ℕ). get_or (take at l ++ (ys ++ drop (at + length ys) l)) (k + i) 0) (sym front)
      ∙ get_or-append-add (take at l) (ys ++ drop (at + length ys) l) i 0
      ∙ get_or-append ys _ 0 i h

  behind : (i : ℕ) → get_or (splice at ys l) (at + (length ys + i)) 0 ≡ get_or l (at + length ys + i) 0
  unfolding splice
  behind i =
      ap (λ (k : ℕ). get_or (take at l ++ (ys ++ drop (at + length ys) l)) (k + (length ys + i)) 0) (sym front)
      ∙ get_or-append-add (take at l) (ys ++ drop (at + length ys) l) (length ys + i) 0
      ∙ get_or-append-add ys (drop (at + length ys) l) i 0 ∙ get_or-drop (at + length ys) l i 0

  pub splice_above : (i : ℕ) → at + length ys ≤ i → get_or (splice at ys l) i 0 ≡ get_or l i 0
  splice_above i h =
      let j : ℕ = i - (at + length ys) in
      let e : i ≡ at + (length ys + j) = omega arith in
      let f : at + length ys + j ≡ i = omega arith in
      ap (λ (k : ℕ). get_or (splice at ys l) k 0) e ∙ behind j ∙ ap (λ (k : ℕ). get_or l k 0) f

  pub splice_in : (i : ℕ) → at ≤ i → i < at + length ys → get_or (splice at ys l) i 0 ≡ get_or ys (i - at) 0
  splice_in i h k =
      let e : i ≡ at + (i - at) = omega arith in
      ap (λ (m : ℕ). get_or (splice at ys l) m 0) e ∙ splice_at (i - at) (omega arith)

  -- a part that lies wholly before or behind what is replaced stays
  pub splice_apart : (b n : ℕ) → b + n ≤ length l → (at + length ys ≤ b) ⊎ (b + n ≤ at) → part b n (splice at ys l) ≡ part b n l
  splice_apart b n h o =
      ext_get_or 0 (part b n (splice at ys l)) (part b n l) (same ∙ sym (length_part b n l h))
      (λ i k. let k' : i < n = omega (arith, same) in get_or_part b n (splice at ys l) i k' ∙ each i k' o ∙ sym (get_or_part b n l i k'))
    where
      same : length (part b n (splice at ys l)) ≡ n
      same = length_part b n (splice at ys l) (omega (arith, length_splice))

      each : (i : ℕ) → i < n → (at + length ys ≤ b) ⊎ (b + n ≤ at) → get_or (splice at ys l) (b + i) 0 ≡ get_or l (b + i) 0
      each i k (inl g) = splice_above (b + i) (omega arith)
      each i k (inr g) = splice_below (b + i) (omega arith)

-- a part of a part
pub part_part : (at n o m : ℕ) (l : List ℕ) → at + n ≤ length l → o + m ≤ n → part o m (part at n l) ≡ part (at + o) m l
part_part at n o m l h k =
    ext_get_or 0 (part o m (part at n l)) (part (at + o) m l) (first ∙ sym second)
    (λ i j. let j' : i < m = omega (arith, first) in
    get_or_part o m (part at n l) i j'
    ∙ get_or_part at n l (o + i) (omega arith)
    ∙ ap (λ (x : ℕ). get_or l x 0) (re i)
    ∙ sym (get_or_part (at + o) m l i j'))
  where
    re : (i : ℕ) → at + (o + i) ≡ at + o + i
    re i = omega arith

    first : length (part o m (part at n l)) ≡ m
    first = length_part o m (part at n l) (omega (arith, length_part at n l h))

    second : length (part (at + o) m l) ≡ m
    second = length_part (at + o) m l (omega arith)

-- what is replaced inside a part is replaced in the part
pub splice_inside : (at n o : ℕ) (ys l : List ℕ) → at + n ≤ length l → o + length ys ≤ n
    → part at n (splice (at + o) ys l) ≡ splice o ys (part at n l)
splice_inside at n o ys l h k =
    ext_get_or 0 (part at n (splice (at + o) ys l)) (splice o ys (part at n l)) (first ∙ sym second)
    (λ i j. let j' : i < n = omega (arith, first) in
    get_or_part at n (splice (at + o) ys l) i j' ∙ each i j' (dec_lt i o) (dec_lt i (o + length ys)))
  where
    fits : at + o + length ys ≤ length l
    fits = omega arith

    fits_part : o + length ys ≤ length (part at n l)
    fits_part = omega (arith, length_part at n l h)

    first : length (part at n (splice (at + o) ys l)) ≡ n
    first = length_part at n (splice (at + o) ys l) (omega (arith, length_splice (at + o) ys l fits))

    second : length (splice o ys (part at n l)) ≡ n
    second = length_splice o ys (part at n l) fits_part ∙ length_part at n l h

    each : (i : ℕ) → i < n → Dec (i < o) → Dec (i < o + length ys)
        → get_or (splice (at + o) ys l) (at + i) 0 ≡ get_or (splice o ys (part at n l)) i 0
    each i j (yes y) z =
        splice_below (at + o) ys l fits (at + i) (omega arith)
        ∙ sym (get_or_part at n l i j)
        ∙ sym (splice_below o ys (part at n l) fits_part i y)
    each i j (no y) (yes z) =
        let e : at + i - (at + o) ≡ i - o = omega arith in
        splice_in (at + o) ys l fits (at + i) (omega arith) (omega arith)
        ∙ ap (λ (x : ℕ). get_or ys x 0) e
        ∙ sym (splice_in o ys (part at n l) fits_part i (omega arith) z)
    each i j (no y) (no z) =
        splice_above (at + o) ys l fits (at + i) (omega arith)
        ∙ sym (get_or_part at n l i j)
        ∙ sym (splice_above o ys (part at n l) fits_part i (omega arith))

-- what was put somewhere is read there
pub part_splice : (at : ℕ) (ys l : List ℕ) → at + length ys ≤ length l → part at (length ys) (splice at ys l) ≡ ys
part_splice at ys l h =
    ext_get_or 0 (part at (length ys) (splice at ys l)) ys same
    (λ i j. let j' : i < length ys = omega (arith, same) in get_or_part at (length ys) (splice at ys l) i j' ∙ splice_at at ys l h i j')
  where
    same : length (part at (length ys) (splice at ys l)) ≡ length ys
    same = length_part at (length ys) (splice at ys l) (omega (arith, length_splice at ys l h))

-- a part that is put back where it was leaves the list
pub splice_part : (at n : ℕ) (l : List ℕ) → at + n ≤ length l → splice at (part at n l) l ≡ l
splice_part at n l h =
    ext_get_or 0 (splice at (part at n l) l) l (length_splice at (part at n l) l fits)
    (λ i j. each i (dec_lt i at) (dec_lt i (at + n)))
  where
    long : length (part at n l) ≡ n
    long = length_part at n l h

    fits : at + length (part at n l) ≤ length l
    fits = omega (arith, long)

    each : (i : ℕ) → Dec (i < at) → Dec (i < at + n) → get_or (splice at (part at n l) l) i 0 ≡ get_or l i 0
    each i (yes y) z = splice_below at (part at n l) l fits i y
    each i (no y) (yes z) =
        let e : at + (i - at) ≡ i = omega arith in
        splice_in at (part at n l) l fits i (omega arith) (omega (arith, long))
        ∙ get_or_part at n l (i - at) (omega arith)
        ∙ ap (λ (x : ℕ). get_or l x 0) e
    each i (no y) (no z) = splice_above at (part at n l) l fits i (omega (arith, long))

-- nothing put leaves the list
pub splice_none : (l : List ℕ) → splice 0 [] l ≡ l
unfolding splice
splice_none l = refl

-- a first byte stored and the others copied behind it
pub splice_first : (x : ℕ) (ys l : List ℕ) → 1 ≤ length l → splice 1 ys (set l 0 x) ≡ splice 0 (x ∷ ys) l
unfolding splice
splice_first x ys [] h = absurd (omega arith)
splice_first x ys (y ∷ l) h =
    let e : 1 + length ys ≡ suc (length ys) = omega arith in
    let f : 0 + suc (length ys) ≡ suc (length ys) = omega arith in
    rw (e, f)

-- a single byte stored
pub splice_one : (x : ℕ) (l : List ℕ) → 1 ≤ length l → set l 0 x ≡ splice 0 (x ∷ []) l
unfolding splice
splice_one x [] h = absurd (omega arith)
splice_one x (y ∷ l) h = refl

-- a list that is replaced whole
pub splice_all : (ys l : List ℕ) → length ys ≡ length l → splice 0 ys l ≡ ys
unfolding splice
splice_all ys l e = rw (zero-add, e, drop-length, append-nil)

-- two lists that agree from at to at + n have the same part there
pub part_agrees : (at n : ℕ) (p c : List ℕ) → at + n ≤ length p → at + n ≤ length c
    → ((i : ℕ) → i < n → get_or p (at + i) 0 ≡ get_or c (at + i) 0) → part at n p ≡ part at n c
part_agrees at n p c h k a =
    ext_get_or 0 (part at n p) (part at n c) (length_part at n p h ∙ sym (length_part at n c k))
    (λ i j. let j' : i < n = omega (arith, length_part at n p h) in get_or_part at n p i j' ∙ a i j' ∙ sym (get_or_part at n c i j'))
