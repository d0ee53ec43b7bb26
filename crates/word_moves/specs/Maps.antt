-- The map of a list whose first element has the place `at`: when a list is it, and what one store makes of it.
use Rattle.std.specs.Prelude.{◌≡◌, refl, List, ℕ, ◌+◌, ◌≤◌, ◌<◌, eqb, length, get_or, set}
use Rattle.std.proofs.Common.{sym, ◌∙◌, ap, arith, eq-eqb, ne_eqb, length-set, ext_get_or, get_or-set_same, get_or-set_other}
use Rattle.std.proofs.Math.Decide.{ℕ_discrete}
use Rattle.words.specs.Choice.{pick}
use Rattle.words.proofs.Choice.{pick_yes, pick_no}
use Rattle.words.specs.Maps.{map_from}
use Rattle.words.proofs.Maps.{length_map_from, get_or_map_from}

-- what is as long as r and has f of each place and element is the map of r
pub made_from : (f : ℕ → ℕ → ℕ) (at : ℕ) (l r : List ℕ) → length l ≡ length r
    → ((i : ℕ) → i < length r → get_or l i 0 ≡ f (at + i) (get_or r i 0)) → l ≡ map_from f at r
made_from f at l r e each =
    ext_get_or 0 l (map_from f at r) (e ∙ sym (length_map_from f at r))
    (λ i h. let h' : i < length r = omega arith in each i h' ∙ sym (get_or_map_from f at r i h'))

-- functions that agree on the places of r make the same map
pub map_agrees : (f g : ℕ → ℕ → ℕ) (at : ℕ) (r : List ℕ) → ((i b : ℕ) → at ≤ i → i < at + length r → f i b ≡ g i b)
    → map_from f at r ≡ map_from g at r
map_agrees f g at r same =
    made_from g at (map_from f at r) r (length_map_from f at r)
    (λ i h. get_or_map_from f at r i h ∙ same (at + i) (get_or r i 0) (omega arith) (omega arith))

-- a function that leaves every place of r leaves r
pub map_leaves : (f : ℕ → ℕ → ℕ) (at : ℕ) (r : List ℕ) → ((i b : ℕ) → at ≤ i → i < at + length r → f i b ≡ b) → r ≡ map_from f at r
map_leaves f at r same = made_from f at r r refl (λ i h. sym (same (at + i) (get_or r i 0) (omega arith) (omega arith)))

-- one element of a map is stored, as g gives it
pub map_put : (f g : ℕ → ℕ → ℕ) (at k x : ℕ) (m r : List ℕ) → m ≡ map_from f at r → k < length m → x ≡ g (at + k) (get_or m k 0)
    → set m k x ≡ map_from (λ i b. pick (eqb i (at + k)) (g i (f i b)) (f i b)) at r
map_put f g at k x m r e h w = made_from _ at (set m k x) r (length-set m k x ∙ same) (λ i l. each i l (ℕ_discrete i k))
  where
    same : length m ≡ length r
    same = ap length e ∙ length_map_from f at r

    old : (i : ℕ) → i < length r → get_or m i 0 ≡ f (at + i) (get_or r i 0)
    old i l = ap (λ (s : List ℕ). get_or s i 0) e ∙ get_or_map_from f at r i l

    new : (i : ℕ) → i < length r → i ≡ k → get_or (set m k x) i 0 ≡ g (at + i) (f (at + i) (get_or r i 0))
    new i l y =
        ap (λ (j : ℕ). get_or (set m k x) j 0) y
        ∙ get_or-set_same m k x 0 h
        ∙ w
        ∙ sym (ap (λ (j : ℕ). g (at + j) (get_or m j 0)) y)
        ∙ ap (g (at + i)) (old i l)

    each : (i : ℕ) → i < length r → Dec (i ≡ k)
        → get_or (set m k x) i 0 ≡ pick (eqb (at + i) (at + k)) (g (at + i) (f (at + i) (get_or r i 0))) (f (at + i) (get_or r i 0))
    each i l (yes y) = pick_yes (eqb (at + i) (at + k)) _ _ _ (eq-eqb (at + i) (at + k) (omega arith)) (new i l y)
    each i l (no y) =
        pick_no (eqb (at + i) (at + k)) _ _ _ (ne_eqb (at + i) (at + k) (λ z. y (omega arith)))
        (get_or-set_other m k i x 0 y ∙ old i l)
