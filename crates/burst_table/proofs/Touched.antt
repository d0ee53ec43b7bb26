-- Lists of bursts, each by its place j among the bursts of a list of bytes: burst j has the bytes from burst_size * j on. Which bytes
-- lie in them, whether they fit, and whether one comes twice.
use Rattle.std.specs.Prelude.{◌≡◌, refl, List, [], ◌∷◌, ◌⊎◌, ℕ, zero, suc, ◌+◌, ◌*◌, ◌≤◌, ◌<◌, length, get_or}
use Rattle.std.proofs.Common.{sym, ◌∙◌, ap, inl, inr, add-zero, suc-add, add-suc, arith}
use Rattle.std.proofs.Math.Decide.{dec_lt, dec_le}
use Rattle.burst_table.specs.Sizes.{burst_size}
use Rattle.burst_table.specs.Bursts.{bursts_from}

-- byte i lies in burst j
abbrev pub Inside : ℕ → ℕ → Type 0
Inside i j = (burst_size * j ≤ i) × (i < burst_size * j + burst_size)

-- byte i lies in one of the bursts
abbrev pub Touched : ℕ → List ℕ → Type 0
Touched i [] = ⊥
Touched i (j ∷ js) = Inside i j ⊎ Touched i js

-- every burst lies in n bytes
abbrev pub Fit : ℕ → List ℕ → Type 0
Fit n [] = Unit {0}
Fit n (j ∷ js) = (burst_size * j + burst_size ≤ n) × Fit n js

-- no burst twice
abbrev pub Fresh : ℕ → List ℕ → Type 0
Fresh j [] = Unit {0}
Fresh j (k ∷ js) = (¬ (j ≡ k)) × Fresh j js

abbrev pub Distinct : List ℕ → Type 0
Distinct [] = Unit {0}
Distinct (j ∷ js) = Fresh j js × Distinct js

pub inside? : (i j : ℕ) → Dec (Inside i j)
inside? i j = go (dec_le (burst_size * j) i) (dec_lt i (burst_size * j + burst_size))
  where
    go : Dec (burst_size * j ≤ i) → Dec (i < burst_size * j + burst_size) → Dec (Inside i j)
    go (yes a) (yes b) = yes (a, b)
    go (yes a) (no b) = no (λ z. b z.1)
    go (no a) b = no (λ z. a z.0)

pub touched? : (i : ℕ) (js : List ℕ) → Dec (Touched i js)
touched? i [] = no (λ z. z)
touched? i (j ∷ js) = go (inside? i j) (touched? i js)
  where
    go : Dec (Inside i j) → Dec (Touched i js) → Dec (Inside i j ⊎ Touched i js)
    go (yes a) b = yes (inl a)
    go (no a) (yes b) = yes (inr b)
    go (no a) (no b) = no neither
      where
        neither : Inside i j ⊎ Touched i js → ⊥
        neither (inl x) = a x
        neither (inr y) = b y

-- what fits n bytes fits more
pub fit_more : (n m : ℕ) (js : List ℕ) → n ≤ m → Fit n js → Fit m js
fit_more n m [] h f = tt
fit_more n m (j ∷ js) h f = (omega (arith, f.0), fit_more n m js h f.1)

-- what fits as a list fits burst by burst
pub fit_at : (n : ℕ) (js : List ℕ) (m : ℕ) → Fit n js → m < length js → burst_size * get_or js m 0 + burst_size ≤ n
fit_at n [] m h k = absurd (omega arith)
fit_at n (j ∷ js) zero h k = h.0
fit_at n (j ∷ js) (suc m) h k = fit_at n js m h.1 (omega arith)

-- ---- bursts in a row

pub length_row : (s n : ℕ) → length (bursts_from s n) ≡ n
length_row s zero = refl
length_row s (suc n) = ap suc (length_row (suc s) n)

-- burst m of n bursts from the s-th on
pub at_burst : (s n m : ℕ) → m < n → get_or (bursts_from s n) m 0 ≡ s + m
at_burst s zero m h = absurd (omega arith)
at_burst s (suc n) zero h = sym (add-zero s)
at_burst s (suc n) (suc m) h = at_burst (suc s) n m (omega arith) ∙ suc-add s m ∙ sym (add-suc s m)

pub row_fit : (s n m : ℕ) → burst_size * (s + n) ≤ m → Fit m (bursts_from s n)
row_fit s zero m h = tt
row_fit s (suc n) m h = (omega arith, row_fit (suc s) n m (omega arith))

row_fresh : (j s n : ℕ) → j < s → Fresh j (bursts_from s n)
row_fresh j s zero h = tt
row_fresh j s (suc n) h = ((λ e. omega (arith, e)), row_fresh j (suc s) n (omega arith))

pub row_once : (s n : ℕ) → Distinct (bursts_from s n)
row_once s zero = tt
row_once s (suc n) = (row_fresh s (suc s) n (omega arith), row_once (suc s) n)

-- every byte of the n bursts from the s-th on lies in one of them
row_touched : (s n i : ℕ) → burst_size * s ≤ i → i < burst_size * (s + n) → Touched i (bursts_from s n)
row_touched s zero i h k = absurd (omega arith)
row_touched s (suc n) i h k = go (dec_lt i (burst_size * s + burst_size)) (λ y. row_touched (suc s) n i y (omega arith))
  where
    go : Dec (i < burst_size * s + burst_size) → (burst_size * suc s ≤ i → Touched i (bursts_from (suc s) n))
        → Touched i (bursts_from s (suc n))
    go (yes y) f = inl (h, y)
    go (no y) f = inr (f (omega arith))

-- every byte of a record of n bursts lies in one of them
pub all_touched : (n i : ℕ) → i < burst_size * n → Touched i (bursts_from 0 n)
all_touched n i h = row_touched 0 n i (omega arith) (omega arith)
