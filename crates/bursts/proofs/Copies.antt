-- Laws about the definitions of specs/Copies.antt.
use Rattle.std.specs.Prelude.{◌≡◌, refl, List, [], ◌∷◌, ℕ, ◌+◌, ◌*◌, ◌-◌, ◌≤◌, ◌<◌, length, get_or}
use Rattle.std.proofs.Common.{sym, ◌∙◌, ap, subst, inl, inr, arith}
use Rattle.std.proofs.Math.Decide.{dec_lt}
use Rattle.words.specs.Parts.{part}
use Rattle.words.proofs.Parts.{length_part, get_or_part, length_splice, splice_below, splice_in, splice_above}
use Rattle.burst_table.specs.Sizes.{burst_size}
use Rattle.burst_table.proofs.Touched.{Inside, Touched, Fit, inside?}
use Rattle.bursts.specs.Copies.{copies, copy}

module _ (j : ℕ) (c buf : List ℕ) (fit : burst_size * j + burst_size ≤ length c) (room : burst_size * j + burst_size ≤ length buf) where
  long : length (part (burst_size * j) burst_size c) ≡ burst_size
  long = length_part (burst_size * j) burst_size c fit

  fits : burst_size * j + length (part (burst_size * j) burst_size c) ≤ length buf
  fits = omega (arith, long)

  pub length_copy : length (copy j c buf) ≡ length buf
  length_copy = length_splice (burst_size * j) (part (burst_size * j) burst_size c) buf fits

  pub copy_in : (i : ℕ) → Inside i j → get_or (copy j c buf) i 0 ≡ get_or c i 0
  copy_in i w =
      let e : burst_size * j + (i - burst_size * j) ≡ i = omega arith in
      splice_in (burst_size * j) (part (burst_size * j) burst_size c) buf fits i w.0 (omega (arith, long))
      ∙ get_or_part (burst_size * j) burst_size c (i - burst_size * j) (omega arith) ∙ ap (λ (x : ℕ). get_or c x 0) e

  pub copy_out : (i : ℕ) → ¬ Inside i j → get_or (copy j c buf) i 0 ≡ get_or buf i 0
  copy_out i n = go (dec_lt i (burst_size * j)) (dec_lt i (burst_size * j + burst_size))
    where
      go : Dec (i < burst_size * j) → Dec (i < burst_size * j + burst_size) → get_or (copy j c buf) i 0 ≡ get_or buf i 0
      go (yes a) b = splice_below (burst_size * j) (part (burst_size * j) burst_size c) buf fits i a
      go (no a) (yes b) = absurd (n (omega arith, b))
      go (no a) (no b) = splice_above (burst_size * j) (part (burst_size * j) burst_size c) buf fits i (omega (arith, long))

-- the bursts that are left still fit the buffer
fit_on : (j : ℕ) (js c buf : List ℕ) → Fit (length c) (j ∷ js) → Fit (length buf) (j ∷ js) → Fit (length (copy j c buf)) js
fit_on j js c buf h k = subst (λ (n : ℕ). Fit n js) (sym (length_copy j c buf h.0 k.0)) k.1

pub length_copies : (js c buf : List ℕ) → Fit (length c) js → Fit (length buf) js → length (copies js c buf) ≡ length buf
length_copies [] c buf h k = refl
length_copies (j ∷ js) c buf h k = length_copies js c (copy j c buf) h.1 (fit_on j js c buf h k) ∙ length_copy j c buf h.0 k.0

-- a byte of the buffer that is the record's stays the record's
pub copies_same : (js c buf : List ℕ) → Fit (length c) js → Fit (length buf) js
    → (i : ℕ) → get_or buf i 0 ≡ get_or c i 0 → get_or (copies js c buf) i 0 ≡ get_or c i 0
copies_same [] c buf h k i e = e
copies_same (j ∷ js) c buf h k i e = copies_same js c (copy j c buf) h.1 (fit_on j js c buf h k) i (go (inside? i j))
  where
    go : Dec (Inside i j) → get_or (copy j c buf) i 0 ≡ get_or c i 0
    go (yes w) = copy_in j c buf h.0 k.0 i w
    go (no w) = copy_out j c buf h.0 k.0 i w ∙ e

-- every byte that was copied is the record's
pub copies_in : (js c buf : List ℕ) → Fit (length c) js → Fit (length buf) js
    → (i : ℕ) → Touched i js → get_or (copies js c buf) i 0 ≡ get_or c i 0
copies_in [] c buf h k i t = absurd t
copies_in (j ∷ js) c buf h k i (inl w) =
    copies_same js c (copy j c buf) h.1 (fit_on j js c buf h k) i (copy_in j c buf h.0 k.0 i w)
copies_in (j ∷ js) c buf h k i (inr t) = copies_in js c (copy j c buf) h.1 (fit_on j js c buf h k) i t
