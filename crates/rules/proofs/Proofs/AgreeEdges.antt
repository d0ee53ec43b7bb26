-- What an edge makes of a queue pair's record, word by word, is the byte rule over all its bytes.
use Rattle.std.specs.Prelude.{◌≡◌, refl, Bool, true, false, List, ◌⊎◌, ℕ, ◌+◌, ◌-◌, ◌%◌, ◌≤◌, ◌<◌, eqb, leb, length, get_or, replicate}
use Rattle.std.proofs.Common.{sym, ◌∙◌, ap, inl, inr, arith, eqb-true, leb-true}
use Rattle.words.specs.Choice.{pick, both, either, within}
use Rattle.words.proofs.Choice.{pick_no, both_left, both_right}
use Rattle.words.specs.Maps.{map_from}
use Rattle.words.proofs.Maps.{length_map_from, map_cong, map_map, map_same, replicate_map, splice_map, copy_map}
use Rattle.edges.specs.Edges.{to_of}
use Rattle.edges.specs.declared.State.{State}
use Rattle.edges.specs.declared.Edge.{Edge}
use Rattle.edges.specs.declared.Edge.TheVariants.{ResetToInit, InitToInit, InitToRtr, RtrToRts, RtsToRts}
use Rattle.edges.specs.declared.Edge.TheVariants.{SqeToRts, RtsToSqd, SqdToSqd, SqdToRts, ToErr, ToReset}
use Rattle.mailboxes.specs.Mailboxes.{edge_need}
use Rattle.byte_rule.specs.Taken.{takes_word, word_of, zeroes}
use Rattle.byte_rule.specs.Bytes.{with_state, taken_byte, edge_byte}
use Rattle.rules.specs.Whole.{take_words, set_state, edge_effect}
use Rattle.words.proofs.Tests.{within_yes, within_no, beyond, within_one, pick_either, either_assoc}

state_map : (s : State) (r : List ℕ) → 1 ≤ length r → set_state s r ≡ map_from (with_state s) 0 r
unfolding set_state with_state
state_map s r h =
    splice_map (with_state s) 0 1 _ r refl h
    (λ i k m. let e : i ≡ 0 = omega arith in rw e)
    (λ i o. pick_no (eqb i 0) _ _ _ (beyond 0 1 0 i (omega arith) (omega arith) o) refl)

-- the state set in what is made of r
pub state_over : (s : State) (f : ℕ → ℕ → ℕ) (m r : List ℕ) → 1 ≤ length r → m ≡ map_from f 0 r
    → set_state s m ≡ map_from (λ i b. with_state s i (f i b)) 0 r
state_over s f m r h e =
    ap (set_state s) e ∙ state_map s (map_from f 0 r) (omega (arith, length_map_from f 0 r)) ∙ map_map (with_state s) f 0 r

-- the words of a test are taken from the image
abbrev taken_by : (ℕ → Bool) → List ℕ → ℕ → ℕ → ℕ
taken_by t image i old = pick (t (word_of i)) (get_or image i 0) old

-- first and last are offsets of words of the image; of two numerals the test computes
abbrev are_words : ℕ → ℕ → Bool
are_words first last = both (both (eqb (first % 4) 0) (eqb (last % 4) 0)) (both (leb first last) (leb last 0xa0))

record Words (first last : ℕ) : Type 0 where
  low : first % 4 ≡ 0
  high : last % 4 ≡ 0
  order : first ≤ last
  end : last ≤ 0xa0

words : (first last : ℕ) → are_words first last ≡ true → Words first last
words first last e =
    let l : both (eqb (first % 4) 0) (eqb (last % 4) 0) ≡ true = both_left _ _ e in
    let r : both (leb first last) (leb last 0xa0) ≡ true = both_right (both (eqb (first % 4) 0) (eqb (last % 4) 0)) _ e in
    record {
      low = eqb-true _ _ (both_left _ _ l);
      high = eqb-true _ _ (both_right (eqb (first % 4) 0) _ l);
      order = leb-true _ _ (both_left _ _ r);
      end = leb-true _ _ (both_right (leb first last) _ r);
    }

-- taken whole words are the bytes whose word lies in the range
words_map : (first last : ℕ) (image r : List ℕ) → Words first last → 164 ≤ length image → length r ≡ 256
    → take_words first last image r ≡ map_from (taken_by (within first last) image) 0 r
unfolding take_words
words_map first last image r w long whole =
    copy_map (λ i. within first last (word_of i)) (λ i. i) first first (last + 4 - first) image r (omega arith) (omega arith)
    (λ i h k. within_yes first last (word_of i) (omega arith) (omega arith))
    (λ i o. within_no first last (word_of i) (apart i o))
    (λ i h k. omega arith)
  where
    apart : (i : ℕ) → (i < first) ⊎ (first + (last + 4 - first) ≤ i) → (word_of i < first) ⊎ (last < word_of i)
    apart i (inl h) = inl (omega arith)
    apart i (inr h) = inr (omega arith)

module _ (image r : List ℕ) (whole : length r ≡ 256) where
  -- m is r with the words of a test taken from the image
  record Takes (t : ℕ → Bool) (m : List ℕ) : Type 0 where
    is : m ≡ map_from (taken_by t image) 0 r

  none : Takes (λ w. false) r
  none = record { is = sym (map_same 0 r) }

  same_test : {t : ℕ → Bool} {m : List ℕ} (u : ℕ → Bool) → ((w : ℕ) → t w ≡ u w) → Takes t m → Takes u m
  same_test u e h = record { is = h.is ∙ (λ j. map_from (taken_by (λ w. e w j) image) 0 r) }

  also_words : 164 ≤ length image → (first last : ℕ) → are_words first last ≡ true
      → {t : ℕ → Bool} {m : List ℕ} → Takes t m → Takes (λ w. either (t w) (within first last w)) (take_words first last image m)
  also_words long first last e {t} {m} h =
      record {
        is = words_map first last image m (words first last e) long (ap length h.is ∙ length_map_from (taken_by t image) 0 r ∙ whole)
            ∙ ap (map_from (taken_by (within first last) image) 0) h.is
            ∙ map_map (taken_by (within first last) image) (taken_by t image) 0 r
            ∙ map_cong _ (taken_by (λ w. either (t w) (within first last w)) image) 0 r
            (λ i b. pick_either (t (word_of i)) (within first last (word_of i)) (get_or image i 0) b);
      }

  also_word : 164 ≤ length image → (at : ℕ) → are_words at at ≡ true
      → {t : ℕ → Bool} {m : List ℕ} → Takes t m → Takes (λ w. either (t w) (eqb w at)) (take_words at at image m)
  also_word long at e {t} h = same_test (λ w. either (t w) (eqb w at)) (λ w. ap (either (t w)) (within_one at w))
      (also_words long at at e h)

  state_after : (e : Edge) → zeroes e ≡ false → {m : List ℕ} → Takes (takes_word e) m → set_state (to_of e) m ≡ map_from (edge_byte e image) 0 r
  unfolding taken_byte edge_byte
  state_after e z t =
      state_over (to_of e) (taken_byte e image) _ r (omega arith) t.is
      ∙ map_cong _ (edge_byte e image) 0 r (λ i b. pick_no (zeroes e) _ _ _ z refl)

  zeroed : replicate 256 0 ≡ map_from (edge_byte ToReset image) 0 r
  unfolding edge_byte
  zeroed = replicate_map 0 r 256 whole

  pub edge_bytes : (e : Edge) → edge_need e ≤ length image → edge_effect e image r ≡ map_from (edge_byte e image) 0 r
  edge_bytes ResetToInit h = state_after ResetToInit refl (also_words h 0x00 0xa0 refl none)
  edge_bytes InitToInit h = state_after InitToInit refl (also_words h 0x04 0x4c refl none)
  edge_bytes InitToRtr h = state_after InitToRtr refl (also_word h 0x84 refl (also_words h 0x04 0x4c refl none))
  edge_bytes RtrToRts h =
      state_after RtrToRts refl
      (same_test (takes_word RtrToRts) (λ w. either_assoc (within 0x20 0x28 w) (eqb w 0x6c) (eqb w 0x7c))
      (also_word h 0x7c refl (also_word h 0x6c refl (also_words h 0x20 0x28 refl none))))
  edge_bytes RtsToRts h = state_after RtsToRts refl (also_words h 0x20 0x28 refl none)
  edge_bytes SqeToRts h = state_after SqeToRts refl (also_word h 0x98 refl none)
  edge_bytes RtsToSqd h = state_after RtsToSqd refl none
  edge_bytes SqdToSqd h = state_after SqdToSqd refl (also_word h 0x98 refl (also_words h 0x20 0x4c refl none))
  edge_bytes SqdToRts h = state_after SqdToRts refl (also_word h 0x98 refl (also_words h 0x20 0x4c refl none))
  edge_bytes ToErr h = state_after ToErr refl none
  edge_bytes ToReset h = zeroed
