-- Numbers of two and of eight bytes, as the code reads and stores them.
use Rattle.std.specs.Prelude.{◌≡◌, refl, List, [], ◌∷◌, ◌++◌, ℕ, suc, ◌+◌, ◌*◌, ◌/◌, ◌%◌, ◌^◌, ◌≤◌, ◌<◌, length, get_or, set, take, drop}
use Rattle.std.proofs.Common.{sym, ◌∙◌, ap, append_assoc, mod-lt, div-add-mod', add-one, arith, lit<, drop-cons, take-add, drop-drop}
use Rattle.std.proofs.lemmas.List.Edits.{sets-eq}
use Rattle.words.specs.Parts.{part, splice}
use Rattle.words.proofs.Parts.{length_part}
use Rattle.words.specs.Words.{le_value, le_bytes, le32}
use Rattle.words.proofs.Words.{length_le_bytes}
use Rattle.hcr.proofs.WordList.{splice_more}
use Rattle.std.specs.Int.{w16, w64, to_le_bytes}
use Rattle.register_calls.specs.Calls.{number_at}

-- ---- read

pub number_two : (at : ℕ) (l : List ℕ) → at + 2 ≤ length l → get_or l at 0 + get_or l (at + 1) 0 * 0x100 ≡ number_at at 2 l
unfolding number_at part le_value
number_two at l h =
    rw (drop-cons l at 0 (omega arith), drop-cons l (suc at) 0 (omega arith), add-one) (omega arith)

value_append : (xs ys : List ℕ) → length xs ≡ 4 → le_value (xs ++ ys) ≡ le_value xs + le_value ys * 2 ^ 32
unfolding le_value
value_append (a ∷ b ∷ c ∷ d ∷ []) ys h = omega arith
value_append [] ys h = absurd (omega arith)
value_append (a ∷ []) ys h = absurd (omega arith)
value_append (a ∷ b ∷ []) ys h = absurd (omega arith)
value_append (a ∷ b ∷ c ∷ []) ys h = absurd (omega arith)
value_append (a ∷ b ∷ c ∷ d ∷ e ∷ xs) ys h = absurd (omega arith)

halves : (at : ℕ) (l : List ℕ) → part at 4 l ++ part (at + 4) 4 l ≡ part at 8 l
unfolding part
halves at l = sym (take-add 4 4 (drop at l) ∙ ap (λ (r : List ℕ). take 4 (drop at l) ++ take 4 r) (drop-drop 4 at l))

pub number_eight : (at low high : ℕ) (l : List ℕ) → low ≡ le32 at l → high ≡ le32 (at + 4) l → at + 8 ≤ length l
    → low + high * 2 ^ 32 ≡ number_at at 8 l
unfolding number_at le32
number_eight at low high l e f h =
    rw (e, f)
    (sym (value_append (part at 4 l) (part (at + 4) 4 l) (length_part at 4 l (omega arith))) ∙ ap le_value (halves at l))

-- ---- stored

pub two_set : (at a b : ℕ) (l : List ℕ) → at + 2 ≤ length l → set (set l at a) (at + 1) b ≡ splice at (a ∷ b ∷ []) l
unfolding splice
two_set at a b l h = rw add-one (sets-eq (a ∷ b ∷ []) l at h ∙ append_assoc (take at l) (a ∷ b ∷ []) (drop (at + 2) l))

pub two_stored : (at v : ℕ) (l o : List ℕ) → o ≡ splice at (v % 0x100 ∷ v / 0x100 ∷ []) l → v < 2 ^ 16 → o ≡ splice at (le_bytes 2 v) l
unfolding le_bytes
two_stored at v l o e h = let f : v / 256 % 256 ≡ v / 256 = omega arith in e ∙ rw f

-- a number of eight bytes by its halves
split_eight : (q r : ℕ) → r < 2 ^ 32 → le_bytes 4 r ++ le_bytes 4 q ≡ le_bytes 8 (q * 4294967296 + r)
unfolding le_bytes
split_eight q r h =
    let x = r / 256 in
    let y = x / 256 in
    let z = y / 256 in
    let e₁ : (q * 4294967296 + r) / 256 ≡ q * 16777216 + x = omega arith in
    let e₂ : (q * 16777216 + x) / 256 ≡ q * 65536 + y = omega arith in
    let e₃ : (q * 65536 + y) / 256 ≡ q * 256 + z = omega arith in
    let e₄ : (q * 256 + z) / 256 ≡ q = omega arith in
    let f₁ : (q * 4294967296 + r) % 256 ≡ r % 256 = omega arith in
    let f₂ : (q * 16777216 + x) % 256 ≡ x % 256 = omega arith in
    let f₃ : (q * 65536 + y) % 256 ≡ y % 256 = omega arith in
    let f₄ : (q * 256 + z) % 256 ≡ z % 256 = omega arith in
    rw (e₁, e₂, e₃, e₄, f₁, f₂, f₃, f₄)

pub bytes_eight : (v : ℕ) → le_bytes 4 (v % 2 ^ 32) ++ le_bytes 4 (v / 2 ^ 32) ≡ le_bytes 8 v
bytes_eight v = split_eight (v / 2 ^ 32) (v % 2 ^ 32) (mod-lt v (lit< tt)) ∙ ap (le_bytes 8) (div-add-mod' v (2 ^ 32))

-- m is the list between the two stores
pub eight_stored : (at v : ℕ) (l m o : List ℕ) → o ≡ splice (at + 4) (le_bytes 4 (v / 2 ^ 32)) m → m ≡ splice at (le_bytes 4 (v % 2 ^ 32)) l
    → at + 8 ≤ length l → o ≡ splice at (le_bytes 8 v) l
eight_stored at v l m o e f h =
    e ∙ rw (f, ← bytes_eight) (more (le_bytes 4 (v % 2 ^ 32)) (le_bytes 4 (v / 2 ^ 32)) (length_le_bytes 4 (v % 2 ^ 32)))
  where
    more : (xs ys : List ℕ) → length xs ≡ 4 → splice (at + 4) ys (splice at xs l) ≡ splice at (xs ++ ys) l
    more xs ys n = rw (← n) (splice_more at xs ys l (omega (arith, n)))

-- The bytes of a number as the library gives them.
pub two_given : (v : ℕ) → to_le_bytes w16 v ≡ le_bytes 2 v
unfolding le_bytes
two_given v = refl

pub eight_given : (v : ℕ) → to_le_bytes w64 v ≡ le_bytes 8 v
unfolding le_bytes
eight_given v =
    let e₂ : v / 256 / 256 ≡ v / 256 ^ 2 = omega arith in
    let e₃ : v / 256 / 256 / 256 ≡ v / 256 ^ 3 = omega arith in
    let e₄ : v / 256 / 256 / 256 / 256 ≡ v / 256 ^ 4 = omega arith in
    let e₅ : v / 256 / 256 / 256 / 256 / 256 ≡ v / 256 ^ 5 = omega arith in
    let e₆ : v / 256 / 256 / 256 / 256 / 256 / 256 ≡ v / 256 ^ 6 = omega arith in
    let e₇ : v / 256 / 256 / 256 / 256 / 256 / 256 / 256 ≡ v / 256 ^ 7 = omega arith in
    rw (e₇, e₆, e₅, e₄, e₃, e₂)
