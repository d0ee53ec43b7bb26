-- Laws about the definitions of specs/Bursts.antt.
use Rattle.std.specs.Prelude.{◌≡◌, refl, List, [], ◌∷◌, ℕ, ◌+◌, ◌*◌, ◌-◌, ◌≤◌, ◌<◌, length}
use Rattle.std.proofs.Common.{sym, ◌∙◌, subst, inl, inr, zero-add, ext_get_or}
use Rattle.std.proofs.Math.Path.{ap}
use Rattle.std.proofs.Math.Decide.{dec_lt}
use native.Mathlib.Omega.{arith}
use Rattle.std.proofs.Math.ListN.{get_or}
use Rattle.words.specs.Parts.{part}
use Rattle.words.proofs.Parts.{length_part, get_or_part, length_splice, splice_below, splice_in, splice_above}
use Rattle.words.specs.Maps.{map_from}
use Rattle.words.proofs.Maps.{length_map_from, get_or_map_from}
use Rattle.burst_table.specs.Sizes.{burst_size}
use Rattle.burst_table.proofs.Touched.{Inside, Touched, Fit, Fresh, Distinct, touched?}
use Rattle.bursts.specs.Bursts.{after, burst}

-- a byte of a burst lies in no other burst
fresh_out : (i j : ℕ) (js : List ℕ) → Inside i j → Fresh j js → Touched i js → ⊥
fresh_out i j [] w f t = t
fresh_out i j (k ∷ js) w f (inl x) = f.0 (omega arith)
fresh_out i j (k ∷ js) w f (inr t) = fresh_out i j js w f.1 t

-- One burst: its bytes are changed and no other (01, Bursts, slots and holds).
module _ (f : ℕ → ℕ → ℕ) (j : ℕ) (c : List ℕ) (fit : burst_size * j + burst_size ≤ length c) where
  old : List ℕ
  old = part (burst_size * j) burst_size c

  new : List ℕ
  new = map_from f (burst_size * j) old

  old_length : length old ≡ burst_size
  unfolding old
  old_length = length_part (burst_size * j) burst_size c fit

  new_length : length new ≡ burst_size
  unfolding new
  new_length = length_map_from f (burst_size * j) old ∙ old_length

  fits : burst_size * j + length new ≤ length c
  fits = omega (arith, new_length)

  pub length_burst : length (burst f j c) ≡ length c
  unfolding new old
  length_burst = length_splice (burst_size * j) new c fits

  pub burst_in : (i : ℕ) → Inside i j → get_or (burst f j c) i 0 ≡ f i (get_or c i 0)
  unfolding new old
  burst_in i w =
      let e : burst_size * j + (i - burst_size * j) ≡ i = omega arith in
      let k : i - burst_size * j < burst_size = omega arith in
      splice_in (burst_size * j) new c fits i w.0 (omega (arith, new_length))
      ∙ get_or_map_from f (burst_size * j) old (i - burst_size * j) (omega (arith, old_length))
      ∙ ap (λ (x : ℕ). f (burst_size * j + (i - burst_size * j)) x) (get_or_part (burst_size * j) burst_size c (i - burst_size * j) k)
      ∙ ap (λ (x : ℕ). f x (get_or c x 0)) e

  pub burst_out : (i : ℕ) → ¬ Inside i j → get_or (burst f j c) i 0 ≡ get_or c i 0
  unfolding new old
  burst_out i n = go (dec_lt i (burst_size * j)) (dec_lt i (burst_size * j + burst_size))
    where
      go : Dec (i < burst_size * j) → Dec (i < burst_size * j + burst_size) → get_or (burst f j c) i 0 ≡ get_or c i 0
      go (yes a) b = splice_below (burst_size * j) new c fits i a
      go (no a) (yes b) = absurd (n (omega arith, b))
      go (no a) (no b) = splice_above (burst_size * j) new c fits i (omega (arith, new_length))

-- the bursts that are left still fit
fit_on : (f : ℕ → ℕ → ℕ) (j : ℕ) (js c : List ℕ) → Fit (length c) (j ∷ js) → Fit (length (burst f j c)) js
fit_on f j js c h = subst (λ (n : ℕ). Fit n js) (sym (length_burst f j c h.0)) h.1

-- A list of bursts.
pub length_after : (f : ℕ → ℕ → ℕ) (js c : List ℕ) → Fit (length c) js → length (after f js c) ≡ length c
length_after f [] c h = refl
length_after f (j ∷ js) c h = length_after f js (burst f j c) (fit_on f j js c h) ∙ length_burst f j c h.0

pub after_out : (f : ℕ → ℕ → ℕ) (js c : List ℕ) → Fit (length c) js → (i : ℕ) → ¬ Touched i js
    → get_or (after f js c) i 0 ≡ get_or c i 0
after_out f [] c h i n = refl
after_out f (j ∷ js) c h i n =
    after_out f js (burst f j c) (fit_on f j js c h) i (λ t. n (inr t)) ∙ burst_out f j c h.0 i (λ w. n (inl w))

pub after_in : (f : ℕ → ℕ → ℕ) (js c : List ℕ) → Fit (length c) js → Distinct js → (i : ℕ) → Touched i js
    → get_or (after f js c) i 0 ≡ f i (get_or c i 0)
after_in f [] c h d i t = absurd t
after_in f (j ∷ js) c h d i (inl w) =
    after_out f js (burst f j c) (fit_on f j js c h) i (fresh_out i j js w d.0) ∙ burst_in f j c h.0 i w
after_in f (j ∷ js) c h d i (inr t) =
    after_in f js (burst f j c) (fit_on f j js c h) d.1 i t
    ∙ ap (λ (x : ℕ). f i x) (burst_out f j c h.0 i (λ w. fresh_out i j js w d.0 t))

-- the law: all the bursts, each from what stands there, are the whole effect
pub after_whole : (f : ℕ → ℕ → ℕ) (js c : List ℕ) → Fit (length c) js → Distinct js
    → ((i b : ℕ) → i < length c → ¬ Touched i js → f i b ≡ b) → after f js c ≡ map_from f 0 c
after_whole f js c h d k =
    ext_get_or 0 (after f js c) (map_from f 0 c) (same ∙ sym (length_map_from f 0 c)) (λ i l. each i (omega (arith, same)) (touched? i js))
  where
    same : length (after f js c) ≡ length c
    same = length_after f js c h

    whole : (i : ℕ) → i < length c → get_or (map_from f 0 c) i 0 ≡ f i (get_or c i 0)
    whole i l = get_or_map_from f 0 c i l ∙ ap (λ (x : ℕ). f x (get_or c i 0)) (zero-add i)

    each : (i : ℕ) → i < length c → Dec (Touched i js) → get_or (after f js c) i 0 ≡ get_or (map_from f 0 c) i 0
    each i l (yes t) = after_in f js c h d i t ∙ sym (whole i l)
    each i l (no t) = after_out f js c h i t ∙ sym (whole i l ∙ k i (get_or c i 0) l t)
