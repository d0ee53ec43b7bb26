-- A burst that is made zero, and one of which a byte is stored.
use Rattle.std.specs.Prelude.{◌≡◌, refl, List, ℕ, ◌+◌, ◌≤◌, ◌<◌, eqb, length, get_or, set, replicate}
use Rattle.std.proofs.Common.{sym, ◌∙◌, arith, eq-eqb, ne_eqb}
use Rattle.std.proofs.Math.Decide.{ℕ_discrete}
use Rattle.std.proofs.lemmas.List.{get_or-replicate}
use Rattle.words.specs.Choice.{pick}
use Rattle.words.proofs.Choice.{pick_yes, pick_no}
use Rattle.words.specs.Parts.{splice}
use Rattle.words.proofs.Parts.{splice_all}
use Rattle.words.specs.Maps.{map_from}
use Rattle.words.proofs.Maps.{map_same}
use Rattle.burst_table.specs.Sizes.{burst_size}
use Rattle.word_moves.specs.Maps.{made_from, map_put, map_agrees}

zeros : List ℕ
zeros = replicate burst_size 0

zeros_long : length zeros ≡ burst_size
unfolding zeros
zeros_long = refl

-- every byte is filled
pub filled : (r out : List ℕ) → length r ≡ burst_size → out ≡ splice 0 (replicate burst_size 0) r → out ≡ replicate burst_size 0
unfolding zeros
filled r out h e = e ∙ splice_all zeros r (zeros_long ∙ sym h)

pub zero_map : (first : ℕ) (r out : List ℕ) → length r ≡ burst_size → out ≡ replicate burst_size 0 → out ≡ map_from (λ i b. 0) first r
unfolding zeros
zero_map first r out h e =
    e ∙ made_from (λ i b. 0) first zeros r (zeros_long ∙ sym h) (λ i k. get_or-replicate burst_size i 0 0 (omega arith))

-- one byte stored, where f gives it and leaves the others
pub one_put : (f : ℕ → ℕ → ℕ) (first k x : ℕ) (r : List ℕ) → k < length r → x ≡ f (first + k) (get_or r k 0)
    → ((i b : ℕ) → first ≤ i → i < first + length r → ¬ (i ≡ first + k) → f i b ≡ b) → set r k x ≡ map_from f first r
one_put f first k x r h w left =
    map_put (λ i b. b) f first k x r r (sym (map_same first r)) h w
    ∙ map_agrees _ f first r (λ i b l m. each i b l m (ℕ_discrete i (first + k)))
  where
    each : (i b : ℕ) → first ≤ i → i < first + length r → Dec (i ≡ first + k) → pick (eqb i (first + k)) (f i b) b ≡ f i b
    each i b l m (yes y) = sym (pick_yes (eqb i (first + k)) (f i b) b (f i b) (eq-eqb i (first + k) y) refl)
    each i b l m (no y) = sym (pick_no (eqb i (first + k)) (f i b) b (f i b) (ne_eqb i (first + k) y) (left i b l m y))
