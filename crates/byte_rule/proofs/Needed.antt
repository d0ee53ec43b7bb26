-- A byte that an edge takes stands in the needed image; and an edge's byte in the steps of the code.
use Rattle.std.specs.Prelude.{◌≡◌, refl, Bool, true, false, List, ℕ, ◌+◌, ◌-◌, ◌*◌, ◌/◌, ◌≤◌, ◌<◌, eqb}
use Rattle.std.proofs.Common.{sym, ◌∙◌, arith, eqb-true}
use Rattle.std.proofs.lemmas.Bool.{false≢true}
use Rattle.words.specs.Choice.{either, within}
use Rattle.words.proofs.Choice.{pick_no}
use Rattle.words.proofs.Tests.{within_high}
use Rattle.edges.specs.Edges.{to_of}
use Rattle.edges.specs.declared.State.{State}
use Rattle.edges.specs.declared.Edge.{Edge}
use Rattle.edges.specs.declared.Edge.TheVariants.{ResetToInit, InitToInit, InitToRtr, RtrToRts, RtsToRts, SqeToRts}
use Rattle.edges.specs.declared.Edge.TheVariants.{RtsToSqd, SqdToSqd, SqdToRts, ToErr, ToReset}
use Rattle.mailboxes.specs.Mailboxes.{edge_need}
use Rattle.byte_rule.specs.Bytes.{with_state, taken_byte, edge_byte}
use Rattle.byte_rule.specs.Taken.{takes_word, word_of, zeroes}

-- of two tests of which one holds, each bounds the number
either_at_most : (p q : Bool) (i n : ℕ) → (p ≡ true → i ≤ n) → (q ≡ true → i ≤ n) → either p q ≡ true → i ≤ n
either_at_most true q i n f g t = f refl
either_at_most false q i n f g t = g t

is_at_most : (w k n : ℕ) → k ≤ n → eqb w k ≡ true → w ≤ n
is_at_most w k n h t = omega (arith, eqb-true w k t)

range_at_most : (a b n w : ℕ) → b ≤ n → within a b w ≡ true → w ≤ n
range_at_most a b n w h t = omega (arith, within_high a b w t)

range_or : (a b k n w : ℕ) → b ≤ n → k ≤ n → either (within a b w) (eqb w k) ≡ true → w ≤ n
range_or a b k n w h l t =
    either_at_most (within a b w) (eqb w k) w n (range_at_most a b n w h) (is_at_most w k n l) t

-- a word that is taken ends inside the image
pub taken_word : (e : Edge) (w : ℕ) → takes_word e w ≡ true → w + 4 ≤ edge_need e
taken_word ResetToInit w t = omega (arith, range_at_most 0 0xa0 0xa0 w (omega arith) t)
taken_word InitToInit w t = omega (arith, range_at_most 4 0x4c 0xa0 w (omega arith) t)
taken_word InitToRtr w t = omega (arith, range_or 4 0x4c 0x84 0xa0 w (omega arith) (omega arith) t)
taken_word RtrToRts w t =
    omega (
      arith,
      either_at_most (within 0x20 0x28 w) (either (eqb w 0x6c) (eqb w 0x7c)) w 0xa0 (range_at_most 0x20 0x28 0xa0 w (omega arith))
          (either_at_most (eqb w 0x6c) (eqb w 0x7c) w 0xa0 (is_at_most w 0x6c 0xa0 (omega arith))
          (is_at_most w 0x7c 0xa0 (omega arith))) t,
    )
taken_word RtsToRts w t = omega (arith, range_at_most 0x20 0x28 0xa0 w (omega arith) t)
taken_word SqeToRts w t = omega (arith, is_at_most w 0x98 0xa0 (omega arith) t)
taken_word RtsToSqd w t = absurd (false≢true t)
taken_word SqdToSqd w t = omega (arith, range_or 0x20 0x4c 0x98 0xa0 w (omega arith) (omega arith) t)
taken_word SqdToRts w t = omega (arith, range_or 0x20 0x4c 0x98 0xa0 w (omega arith) (omega arith) t)
taken_word ToErr w t = absurd (false≢true t)
taken_word ToReset w t = absurd (false≢true t)

-- a byte of a taken word stands in the image
pub taken_needed : (e : Edge) (i : ℕ) → takes_word e (word_of i) ≡ true → i < edge_need e
taken_needed e i t = omega (arith, taken_word e (word_of i) t)

-- the same with the premises of the code: r is what the test answered, n the length of the lent image
pub taken_inside : (e : Edge) (i n : ℕ) (r : Bool) → r ≡ takes_word e (i / 4 * 4) → r ≡ true → edge_need e ≤ n → i < n
taken_inside e i n r p q h = omega (arith, taken_needed e i (sym p ∙ q))

-- an edge that does not zero the record, in the steps of the code: z is the test's answer, s the state that the edge leads to,
-- t the byte with the taken words
pub edge_set : (e : Edge) (image : List ℕ) (i old : ℕ) {z : Bool} {s : State} {t r : ℕ} → z ≡ zeroes e → z ≡ false → s ≡ to_of e
    → t ≡ taken_byte e image i old → r ≡ with_state s i t → r ≡ edge_byte e image i old
unfolding edge_byte
edge_set e image i old p q k g h =
    let b : ℕ = with_state (to_of e) i (taken_byte e image i old) in
    h ∙ rw (k, g) (pick_no (zeroes e) 0 b b (sym p ∙ q) refl)
