-- A burst of an engine write: the PSN's three bytes, and the state.
use Rattle.std.specs.Prelude.{◌≡◌, List, ℕ, ◌+◌, ◌-◌, ◌*◌, ◌/◌, ◌%◌, ◌<◌, eqb, set}
use Rattle.std.proofs.Math.Path.{refl}
use Rattle.std.proofs.Common.{sym, ◌∙◌, ap, arith, eq-eqb, ne_eqb}
use Rattle.std.proofs.Math.Decide.{ℕ_discrete}
use Rattle.std.proofs.Math.ListN.{length, length-set}
use Rattle.words.specs.Choice.{pick}
use Rattle.words.specs.Maps.{map_from}
use Rattle.words.proofs.Maps.{map_map, map_same}
use Rattle.edges.specs.declared.State.{State}
use Rattle.requests.specs.declared.PsnField.{PsnField}
use Rattle.requests.specs.declared.PsnField.TheVariants.{NextSend, LastAcked, Expected}
use Rattle.burst_table.specs.Sizes.{burst_size}
use Rattle.burst_table.specs.Bursts.{psn_place}
use Rattle.byte_rule.specs.Bytes.{with_state, psn_byte, write_byte}
use Rattle.word_moves.specs.Places.{Burst}
use Rattle.word_moves.specs.Maps.{map_put, map_agrees, map_leaves}

-- a PSN's word is one of the record's words
pub place_word : (p : PsnField) → psn_place p % 4 ≡ 0
place_word NextSend = refl
place_word LastAcked = refl
place_word Expected = refl

-- three places apart, in either order
turned : (w i x y z b : ℕ)
    → pick (eqb i (w + 3)) z (pick (eqb i (w + 2)) y (pick (eqb i (w + 1)) x b))
    ≡ pick (eqb i (w + 1)) x (pick (eqb i (w + 2)) y (pick (eqb i (w + 3)) z b))
turned w i x y z b = go (ℕ_discrete i (w + 1)) (ℕ_discrete i (w + 2))
  where
    go : Dec (i ≡ w + 1) → Dec (i ≡ w + 2)
        → pick (eqb i (w + 3)) z (pick (eqb i (w + 2)) y (pick (eqb i (w + 1)) x b))
        ≡ pick (eqb i (w + 1)) x (pick (eqb i (w + 2)) y (pick (eqb i (w + 3)) z b))
    go (yes e) f =
        rw (eq-eqb i (w + 1) e, ne_eqb i (w + 2) (λ u. omega (arith, u, e)), ne_eqb i (w + 3) (λ u. omega (arith, u, e)))
    go (no e) (yes f) = rw (ne_eqb i (w + 1) e, eq-eqb i (w + 2) f, ne_eqb i (w + 3) (λ u. omega (arith, u, f)))
    go (no e) (no f) = rw (ne_eqb i (w + 1) e, ne_eqb i (w + 2) f)

psn_apart : (w psn i b : ℕ) → ¬ (i ≡ w + 1) → ¬ (i ≡ w + 2) → ¬ (i ≡ w + 3) → psn_byte w psn i b ≡ b
unfolding psn_byte
psn_apart w psn i b l m n = rw (ne_eqb i (w + 1) l, ne_eqb i (w + 2) m, ne_eqb i (w + 3) n)

-- w is the word's place as the call answered it
module _ (p : PsnField) (psn w first : ℕ) (r : List ℕ) (burst : Burst r first) (place : w ≡ psn_place p) where
  word : w % 4 ≡ 0
  word = ap (λ (n : ℕ). n % 4) place ∙ place_word p

  pub psn_left : ¬ (w / burst_size * burst_size ≡ first) → r ≡ map_from (psn_byte (psn_place p) psn) first r
  psn_left n =
      rw (← place)
      (map_leaves (psn_byte w psn) first r
      (λ i b h k. let k' : i < first + burst_size = omega (arith, burst.long) in
      psn_apart w psn i b (λ e. n (omega (arith, burst.aligned, word))) (λ e. n (omega (arith, burst.aligned, word)))
      (λ e. n (omega (arith, burst.aligned, word)))))

  -- the three bytes lie in the burst
  psn_inside : w / burst_size * burst_size ≡ first → w - first + 3 < burst_size
  psn_inside e = omega (arith, word)

  pub psn_put : (x y z : ℕ) → w / burst_size * burst_size ≡ first → x ≡ psn / 0x10000 % 0x100 → y ≡ psn / 0x100 % 0x100 → z ≡ psn % 0x100
      → set (set (set r (w - first + 1) x) (w - first + 2) y) (w - first + 3) z ≡ map_from (psn_byte (psn_place p) psn) first r
  unfolding psn_byte
  psn_put x y z e ex ey ez =
      map_put _ (λ i b. z) first (w - first + 3) z _ r two (omega (arith, long, psn_inside e)) refl
      ∙ map_agrees _ _ first r (λ i b h k. rw (← place, ← ex, ← ey, ← ez, at 1, at 2, at 3) (turned w i x y z b))
    where
      long : length (set (set r (w - first + 1) x) (w - first + 2) y) ≡ burst_size
      long = simp length-set burst.long

      at : (j : ℕ) → first + (w - first + j) ≡ w + j
      at j = omega arith

      one : set r (w - first + 1) x ≡ map_from (λ i b. pick (eqb i (first + (w - first + 1))) x b) first r
      one =
          map_put (λ i b. b) (λ i b. x) first (w - first + 1) x r r (sym (map_same first r)) (omega (arith, psn_inside e, burst.long)) refl

      two : set (set r (w - first + 1) x) (w - first + 2) y
          ≡ map_from (λ i b. pick (eqb i (first + (w - first + 2))) y (pick (eqb i (first + (w - first + 1))) x b)) first r
      two =
          map_put _ (λ i b. y) first (w - first + 2) y _ r one
          (omega (arith, psn_inside e, burst.long, length-set r (w - first + 1) x)) refl

-- m is the burst with the PSN
pub write_made : (p : PsnField) (psn first : ℕ) (s : State) (r m out : List ℕ) → m ≡ map_from (psn_byte (psn_place p) psn) first r
    → out ≡ map_from (with_state s) first m → out ≡ map_from (write_byte p psn s) first r
unfolding write_byte
write_made p psn first s r m out g w = w ∙ rw g (map_map (with_state s) (psn_byte (psn_place p) psn) first r)
