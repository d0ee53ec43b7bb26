-- A word that is copied or left is a byte rule on that word alone; and the words of a burst, one after the other, make the rule on all
-- of it.
use Rattle.std.specs.Prelude.{◌≡◌, refl, Bool, true, false, List, ℕ, ◌+◌, ◌-◌, ◌%◌, ◌≤◌, ◌<◌, eqb, length, get_or, set}
use Rattle.std.proofs.Common.{sym, ◌∙◌, ap, arith, eq-eqb, ne_eqb, lt-ltb, le-ltb}
use Rattle.std.proofs.Math.Decide.{dec_lt, ℕ_discrete}
use Rattle.words.specs.Choice.{pick}
use Rattle.words.proofs.Choice.{pick_yes, pick_no}
use Rattle.words.specs.Parts.{part, splice}
use Rattle.words.proofs.Parts.{length_part, get_or_part, length_splice, splice_below, splice_in, splice_above}
use Rattle.words.specs.Maps.{map_from}
use Rattle.words.proofs.Maps.{map_map}
use Rattle.words.proofs.Leaves.{part_four, splice_four}
use Rattle.byte_rule.specs.Taken.{word_of}
use Rattle.word_moves.specs.Places.{on_word, before}
use Rattle.word_moves.specs.Maps.{made_from, map_agrees, map_leaves}

-- four stores of what stands in four places of xs
pub word_stored : (from to : ℕ) (xs l : List ℕ) → from + 4 ≤ length xs → to + 4 ≤ length l
    → set (set (set (set l to (get_or xs from 0)) (to + 1) (get_or xs (from + 1) 0)) (to + 2) (get_or xs (from + 2) 0)) (to + 3)
    (get_or xs (from + 3) 0)
    ≡ splice to (part from 4 xs) l
word_stored from to xs l h k =
    splice_four to _ _ _ _ l k ∙ ap (λ (ys : List ℕ). splice to ys l) (sym (part_four from xs h))

-- a rule on the word at w, at a byte of that word and at another
pub on_word_lem : (w : ℕ) (f : ℕ → ℕ → ℕ) (i b : ℕ) → word_of i ≡ w → f i b ≡ on_word w f i b
unfolding on_word
on_word_lem w f i b e = pick_yes (eqb (word_of i) w) (f i b) b _ (eq-eqb (word_of i) w e) refl

pub off_word : (w : ℕ) (f : ℕ → ℕ → ℕ) (i b : ℕ) → ¬ (word_of i ≡ w) → b ≡ on_word w f i b
unfolding on_word
off_word w f i b n = pick_no (eqb (word_of i) w) (f i b) b _ (ne_eqb (word_of i) w n) refl

-- a rule on the bytes before n, at one of them and behind them
in_front : (n : ℕ) (f : ℕ → ℕ → ℕ) (i b : ℕ) → i < n → before n f i b ≡ f i b
unfolding before
in_front n f i b h = rw (lt-ltb i n h)

behind : (n : ℕ) (f : ℕ → ℕ → ℕ) (i b : ℕ) → n ≤ i → before n f i b ≡ b
unfolding before
behind n f i b h = rw (le-ltb i n h)

-- ---- one word

module _ (f : ℕ → ℕ → ℕ) (first o : ℕ) (r : List ℕ) (start : first % 4 ≡ 0) (place : o % 4 ≡ 0) (fits : o + 4 ≤ length r) where
  pub splice_word : (ys : List ℕ) → length ys ≡ 4 → ((i : ℕ) → i < 4 → get_or ys i 0 ≡ f (first + (o + i)) (get_or r (o + i) 0))
      → splice o ys r ≡ map_from (on_word (first + o) f) first r
  splice_word ys long is =
      made_from (on_word (first + o) f) first (splice o ys r) r (length_splice o ys r inside)
      (λ i h. each i (dec_lt i o) (dec_lt i (o + 4)))
    where
      inside : o + length ys ≤ length r
      inside = omega arith

      each : (i : ℕ) → Dec (i < o) → Dec (i < o + 4) → get_or (splice o ys r) i 0 ≡ on_word (first + o) f (first + i) (get_or r i 0)
      each i (yes y) z =
          splice_below o ys r inside i y ∙ off_word (first + o) f (first + i) (get_or r i 0) (λ e. omega (arith, e))
      each i (no y) (yes z) =
          let e : o + (i - o) ≡ i = omega arith in
          splice_in o ys r inside i (omega arith) (omega arith)
          ∙ is (i - o) (omega arith)
          ∙ ap (λ (k : ℕ). f (first + k) (get_or r k 0)) e
          ∙ on_word_lem (first + o) f (first + i) (get_or r i 0) (omega arith)
      each i (no y) (no z) =
          splice_above o ys r inside i (omega arith)
          ∙ off_word (first + o) f (first + i) (get_or r i 0) (λ e. omega (arith, e))

-- a word on which the test holds is the image's
pub word_taken : (t : ℕ → Bool) (first o : ℕ) (image r : List ℕ) → first % 4 ≡ 0 → o % 4 ≡ 0 → first + o + 4 ≤ length image
    → o + 4 ≤ length r → ((i : ℕ) → word_of i ≡ first + o → t i ≡ true)
    → splice o (part (first + o) 4 image) r ≡ map_from (on_word (first + o) (λ i b. pick (t i) (get_or image i 0) b)) first r
word_taken t first o image r start place h k taken =
    splice_word _ first o r start place k (part (first + o) 4 image) (length_part (first + o) 4 image h)
    (λ i l. get_or_part (first + o) 4 image i l
    ∙ ap (λ (j : ℕ). get_or image j 0) (again i)
    ∙ pick_yes (t (first + (o + i))) _ _ _ (taken (first + (o + i)) (omega arith)) refl)
  where
    again : (i : ℕ) → first + o + i ≡ first + (o + i)
    again i = omega arith

-- and one on which it does not hold is left
pub word_left : (t : ℕ → Bool) (w first : ℕ) (image r : List ℕ) → ((i : ℕ) → word_of i ≡ w → t i ≡ false)
    → r ≡ map_from (on_word w (λ i b. pick (t i) (get_or image i 0) b)) first r
word_left t w first image r left = map_leaves _ first r (λ i b h k. each i b (ℕ_discrete (word_of i) w))
  where
    each : (i b : ℕ) → Dec (word_of i ≡ w) → on_word w (λ i b. pick (t i) (get_or image i 0) b) i b ≡ b
    each i b (yes e) = sym (on_word_lem w _ i b e) ∙ sym (pick_no (t i) (get_or image i 0) b b (left i e) refl)
    each i b (no e) = sym (off_word w _ i b e)

-- ---- the words of a burst, as a loop over them has done them: those before `at`

module _ (f : ℕ → ℕ → ℕ) (first : ℕ) (r : List ℕ) where
  pub words_none : r ≡ map_from (before (first + 0) f) first r
  words_none = map_leaves _ first r (λ i b h k. behind (first + 0) f i b (omega arith))

  pub words_step : (at : ℕ) (m out : List ℕ) → first % 4 ≡ 0 → at % 4 ≡ 0 → m ≡ map_from (before (first + at) f) first r
      → out ≡ map_from (on_word (first + at) f) first m → out ≡ map_from (before (first + (at + 4)) f) first r
  words_step at m out start place e w =
      w
      ∙ ap (map_from (on_word (first + at) f) first) e
      ∙ map_map (on_word (first + at) f) (before (first + at) f) first r
      ∙ map_agrees _ _ first r (λ i b h k. each i b (dec_lt i (first + at)) (dec_lt i (first + at + 4)))
    where
      each : (i b : ℕ) → Dec (i < first + at) → Dec (i < first + at + 4)
          → on_word (first + at) f i (before (first + at) f i b) ≡ before (first + (at + 4)) f i b
      each i b (yes y) z =
          sym (off_word (first + at) f i _ (λ u. omega (arith, u)))
          ∙ in_front (first + at) f i b y
          ∙ sym (in_front (first + (at + 4)) f i b (omega arith))
      each i b (no y) (yes z) =
          ap (on_word (first + at) f i) (behind (first + at) f i b (omega arith))
          ∙ sym (on_word_lem (first + at) f i b (omega arith))
          ∙ sym (in_front (first + (at + 4)) f i b (omega arith))
      each i b (no y) (no z) =
          sym (off_word (first + at) f i _ (λ u. omega (arith, u)))
          ∙ behind (first + at) f i b (omega arith)
          ∙ sym (behind (first + (at + 4)) f i b (omega arith))

  pub words_done : (at : ℕ) (m : List ℕ) → m ≡ map_from (before (first + at) f) first r → length r ≤ at → m ≡ map_from f first r
  words_done at m e h = e ∙ map_agrees _ _ first r (λ i b k l. in_front (first + at) f i b (omega arith))
