-- A burst of an edge: the words that the edge takes, and then the state in byte 0.
use Rattle.std.specs.Prelude.{◌≡◌, refl, Bool, true, false, List, ℕ, ◌≤◌, ◌<◌, get_or, set, replicate}
use Rattle.std.proofs.Common.{sym, ◌∙◌, arith, ne_eqb}
use Rattle.words.proofs.Choice.{pick_yes, pick_no}
use Rattle.words.specs.Maps.{map_from}
use Rattle.words.proofs.Maps.{map_map, map_cong}
use Rattle.edges.specs.Edges.{to_of}
use Rattle.edges.specs.declared.State.{State}
use Rattle.edges.specs.declared.Edge.{Edge}
use Rattle.burst_table.specs.Sizes.{burst_size}
use Rattle.byte_rule.specs.Taken.{zeroes}
use Rattle.byte_rule.specs.Bytes.{with_state, taken_byte, edge_byte}
use Rattle.word_moves.specs.Places.{Burst}
use Rattle.word_moves.specs.Maps.{map_leaves}
use Rattle.owner_bursts.specs.Maps.{zero_map, one_put}

-- the state leaves every byte but the record's first
state_apart : (s : State) (i b : ℕ) → ¬ (i ≡ 0) → with_state s i b ≡ b
unfolding with_state
state_apart s i b n = rw (ne_eqb i 0 n)

-- a burst behind the first has no state
pub state_left : (s : State) (first : ℕ) (r : List ℕ) → 0 < first → r ≡ map_from (with_state s) first r
state_left s first r h = map_leaves (with_state s) first r (λ i b k l. state_apart s i b (λ e. omega arith))

-- x is the new byte 0
pub state_put : (s : State) (first x : ℕ) (r : List ℕ) → Burst r first → first ≤ 0 → x ≡ with_state s 0 (get_or r 0 0)
    → set r 0 x ≡ map_from (with_state s) first r
state_put s first x r burst h e =
    let z : first ≡ 0 = omega arith in
    rw z (one_put (with_state s) 0 0 x r (omega (arith, burst.long)) e (λ i b k l n. state_apart s i b n))

-- z is what the test answered
pub edge_zeroed : (e : Edge) (first : ℕ) (image r out : List ℕ) (z : Bool) → Burst r first → z ≡ zeroes e → z ≡ true
    → out ≡ replicate burst_size 0 → out ≡ map_from (edge_byte e image) first r
unfolding edge_byte
edge_zeroed e first image r out z burst p q w =
    zero_map first r out burst.long w
    ∙ map_cong _ _ first r (λ i b. pick_yes (zeroes e) 0 (with_state (to_of e) i (taken_byte e image i b)) 0 (sym p ∙ q) refl)

-- m is the burst with the words taken, s the state that the edge leads to
pub edge_made : (e : Edge) (first : ℕ) (image r m out : List ℕ) (z : Bool) (s : State) → z ≡ zeroes e → z ≡ false → s ≡ to_of e
    → m ≡ map_from (taken_byte e image) first r → out ≡ map_from (with_state s) first m → out ≡ map_from (edge_byte e image) first r
unfolding edge_byte
edge_made e first image r m out z s p q k g w =
    w
    ∙ rw (k, g) (map_map (with_state (to_of e)) (taken_byte e image) first r)
    ∙ map_cong _ _ first r (λ i b. pick_no (zeroes e) 0 (with_state (to_of e) i (taken_byte e image i b)) _ (sym p ∙ q) refl)
