-- What the code of the leaves leaves behind, in the definitions' terms: four bytes read or written, a copy, a fill.
use Rattle.std.specs.Prelude.{◌≡◌, List, [], ◌∷◌, ◌++◌, ℕ, suc, ◌+◌, ◌-◌, ◌*◌, ◌/◌, ◌%◌, ◌≤◌, ◌<◌, length, get_or, take, drop, set, replicate}
use Rattle.std.proofs.Common.{sym, ◌∙◌, ap, append_assoc, append-nil, add-one, arith, length-drop, drop_of_length-le, drop-cons, take_all, drop-drop}
use Rattle.std.proofs.Math.Nat.{add-sub_cancel_left}
use Rattle.std.proofs.Math.Numerals.{add-two, add-three}
use Rattle.std.proofs.lemmas.List.Edits.{fill_more, sets-eq}
use Rattle.std.proofs.lemmas.List.{length-replicate}
use Rattle.std.proofs.Math.Seq.{take-length, drop-length}
use Rattle.words.specs.Parts.{part, splice}
use Rattle.words.proofs.Parts.{length_part, lent_splice}
use Rattle.words.specs.Words.{le_value, be_value, le_bytes, be_bytes, le32, be32}
use Rattle.std.specs.Int.{w32, from_le_bytes, from_be_bytes, to_le_bytes, to_be_bytes}

-- What each order makes of four bytes.
pub le_four : (a b c d : ℕ) → le_value (a ∷ b ∷ c ∷ d ∷ []) ≡ a + b * 0x100 + c * 0x10000 + d * 0x1000000
unfolding le_value
le_four a b c d = omega arith

pub be_four : (a b c d : ℕ) → be_value (a ∷ b ∷ c ∷ d ∷ []) ≡ le_value (d ∷ c ∷ b ∷ a ∷ [])
unfolding le_value be_value
be_four a b c d = omega arith

-- What the library's conversions make of four bytes.
pub from_le_four : (a b c d : ℕ) → from_le_bytes w32 (a ∷ b ∷ c ∷ d ∷ []) ≡ le_value (a ∷ b ∷ c ∷ d ∷ [])
unfolding le_value
from_le_four a b c d = omega arith

pub from_be_four : (a b c d : ℕ) → from_be_bytes w32 (a ∷ b ∷ c ∷ d ∷ []) ≡ le_value (d ∷ c ∷ b ∷ a ∷ [])
unfolding le_value
from_be_four a b c d = omega arith

-- Four bytes from at, one by one.
pub part_four : (at : ℕ) (l : List ℕ) → at + 4 ≤ length l
    → part at 4 l ≡ get_or l at 0 ∷ get_or l (at + 1) 0 ∷ get_or l (at + 2) 0 ∷ get_or l (at + 3) 0 ∷ []
unfolding part
part_four at l h =
    rw (
      drop-cons l at 0 (omega arith),
      drop-cons l (suc at) 0 (omega arith),
      drop-cons l (suc (suc at)) 0 (omega arith),
      drop-cons l (suc (suc (suc at))) 0 (omega arith),
      add-one,
      add-two,
      add-three,
    )

pub le32_is : (at : ℕ) (l : List ℕ) → at + 4 ≤ length l
    → le_value (get_or l at 0 ∷ get_or l (at + 1) 0 ∷ get_or l (at + 2) 0 ∷ get_or l (at + 3) 0 ∷ []) ≡ le32 at l
unfolding le32
le32_is at l h = ap le_value (sym (part_four at l h))

pub be32_is : (at : ℕ) (l : List ℕ) → at + 4 ≤ length l
    → le_value (get_or l (at + 3) 0 ∷ get_or l (at + 2) 0 ∷ get_or l (at + 1) 0 ∷ get_or l at 0 ∷ []) ≡ be32 at l
unfolding be32
be32_is at l h = sym (be_four _ _ _ _) ∙ ap be_value (sym (part_four at l h))

-- Four stores from at.
pub splice_four : (at a b c d : ℕ) (l : List ℕ) → at + 4 ≤ length l
    → set (set (set (set l at a) (at + 1) b) (at + 2) c) (at + 3) d ≡ splice at (a ∷ b ∷ c ∷ d ∷ []) l
unfolding splice
splice_four at a b c d l h =
    rw (add-one, add-two, add-three)
    (sets-eq (a ∷ b ∷ c ∷ d ∷ []) l at h ∙ append_assoc (take at l) (a ∷ b ∷ c ∷ d ∷ []) (drop (at + 4) l))

-- A part that was lent and replaced: its length as the code has it, end less start.
pub lent_part : (at n : ℕ) (ys l out : List ℕ) → length ys ≡ n → out ≡ ys
    → take at l ++ (out ++ drop (at + n - at) (drop at l)) ≡ splice at ys l
lent_part at n ys l out long e = rw (add-sub_cancel_left, e) (lent_splice at n ys l long)

pub le_bytes_four : (v : ℕ) → le_bytes 4 v ≡ v % 0x100 ∷ v / 0x100 % 0x100 ∷ v / 0x10000 % 0x100 ∷ v / 0x1000000 % 0x100 ∷ []
unfolding le_bytes
le_bytes_four v =
    let e : v / 256 / 256 % 256 ≡ v / 65536 % 256 = omega arith in
    let f : v / 256 / 256 / 256 % 256 ≡ v / 16777216 % 256 = omega arith in
    rw (e, f)

pub be_bytes_four : (v : ℕ) → be_bytes 4 v ≡ v / 0x1000000 % 0x100 ∷ v / 0x10000 % 0x100 ∷ v / 0x100 % 0x100 ∷ v % 0x100 ∷ []
unfolding be_bytes
be_bytes_four v =
    let e : v / 1 % 256 ≡ v % 256 = omega arith in
    rw e

-- The same bytes as the library gives them.
pub le_given : (v : ℕ) → to_le_bytes w32 v ≡ le_bytes 4 v
le_given v = sym (le_bytes_four v)

pub be_given : (v : ℕ) → to_be_bytes w32 v ≡ be_bytes 4 v
be_given v = sym (be_bytes_four v)

-- A loop that fills a list from the front: m is the list at the loop's head.
pub fill_again : (n v : ℕ) (l m : List ℕ) → m ≡ replicate n v ++ drop n l → length m ≡ length l → n < length m
    → set m n v ≡ replicate (n + 1) v ++ drop (n + 1) l
fill_again n v l m e k h = rw e (fill_more n v l (omega arith))

pub fill_done : (n v : ℕ) (l m : List ℕ) → m ≡ replicate n v ++ drop n l → length m ≡ length l
    → length m ≤ n → n ≤ length l → m ≡ replicate (length l) v
fill_done n v l m e k p q =
    let i : n ≡ length l = omega arith in
    e ∙ rw (i, drop-length, append-nil)

take_length_part : (at n : ℕ) (l : List ℕ) → at + n ≤ length l → length (take n (drop at l)) ≡ n
unfolding part
take_length_part at n l h = length_part at n l h

-- A part that was lent and filled: its length as the code has it, end less start.
pub lent_fill : (at n v : ℕ) (l out : List ℕ) → at + n ≤ length l → out ≡ replicate (length (take (at + n - at) (drop at l))) v
    → take at l ++ (out ++ drop (at + n - at) (drop at l)) ≡ splice at (replicate n v) l
lent_fill at n v l out h e = rw add-sub_cancel_left (lent_splice at n out l long ∙ ap (λ (ys : List ℕ). splice at ys l) filled)
  where
    filled : out ≡ replicate n v
    filled = e ∙ rw add-sub_cancel_left (ap (λ (k : ℕ). replicate k v) (take_length_part at n l h))

    long : length out ≡ n
    long = ap length filled ∙ length-replicate n v

-- The rest of a list, lent and copied into from its front.
pub lent_copy : (at : ℕ) (ys l out : List ℕ) → at + length ys ≤ length l
    → out ≡ take (length ys) ys ++ drop (length ys) (take (length l - at) (drop at l))
    → take at l ++ (out ++ drop (length l - at) (drop at l)) ≡ splice at ys l
unfolding splice
lent_copy at ys l out h e =
    let f : length (drop at l) ≤ length l - at = simp length-drop (omega arith) in
    rw (e, take-length, take_all (length l - at) (drop at l) f, drop_of_length-le (drop at l) f, append-nil, drop-drop)
