-- The moves of one word and of all words of a burst, in the steps of the code: r is the burst at first, out the burst afterwards.
use Rattle.std.specs.Prelude.{◌≡◌, Bool, true, false, List, ℕ, ◌+◌, ◌*◌, ◌/◌, ◌%◌, ◌≤◌, ◌<◌, length}
use Rattle.std.proofs.Common.{sym, ◌∙◌, ap, arith, lt-ltb, le-ltb}
use Rattle.words.specs.Parts.{part, splice}
use Rattle.words.specs.Maps.{map_from}
use Rattle.words.proofs.Maps.{length_map_from}
use Rattle.edges.specs.declared.Edge.{Edge}
use Rattle.mailboxes.specs.Mailboxes.{edge_need}
use Rattle.burst_table.specs.Sizes.{burst_size}
use Rattle.byte_rule.specs.Taken.{takes_word, word_of}
use Rattle.byte_rule.specs.Bytes.{taken_byte}
use Rattle.byte_rule.proofs.Needed.{taken_word}
use Rattle.word_moves.specs.Places.{on_word, before, image_byte, Burst, Word}
use Rattle.word_moves.specs.Copies.{word_taken, word_left, words_step, words_done}

-- ---- a word by an edge: a is what the test answered

pub taken_copied : (e : Edge) (first at : ℕ) (image r out : List ℕ) (a : Bool) → Word r first at → edge_need e ≤ length image
    → a ≡ takes_word e (first + at) → a ≡ true → out ≡ splice at (part (first + at) 4 image) r
    → out ≡ map_from (on_word (first + at) (taken_byte e image)) first r
unfolding taken_byte
taken_copied e first at image r out a word need p q z =
    z
    ∙ word_taken (λ i. takes_word e (word_of i)) first at image r (omega (arith, word.burst.aligned)) word.place
    (omega (arith, taken_word e (first + at) (sym p ∙ q))) (omega (arith, word.burst.long, word.fits))
    (λ i k. ap (takes_word e) k ∙ sym p ∙ q)

pub taken_left : (e : Edge) (first at : ℕ) (image r : List ℕ) (a : Bool) → a ≡ takes_word e (first + at) → a ≡ false
    → r ≡ map_from (on_word (first + at) (taken_byte e image)) first r
unfolding taken_byte
taken_left e first at image r a p q =
    word_left (λ i. takes_word e (word_of i)) (first + at) first image r (λ i k. ap (takes_word e) k ∙ sym p ∙ q)

-- a word that is taken lies in the image, whose length is n
pub word_inside : (e : Edge) (w n : ℕ) (a : Bool) → a ≡ takes_word e w → a ≡ true → edge_need e ≤ n → w + 4 ≤ n
word_inside e w n a p q h = omega (arith, taken_word e w (sym p ∙ q))

-- ---- a word by SW2HW

pub stored_copied : (n first at : ℕ) (image r out : List ℕ) → Word r first at → n ≤ length image → n % 4 ≡ 0 → first + at < n
    → out ≡ splice at (part (first + at) 4 image) r
    → out ≡ map_from (on_word (first + at) (before n (image_byte image))) first r
unfolding before image_byte
stored_copied n first at image r out word need whole h z =
    z
    ∙ word_taken _ first at image r (omega (arith, word.burst.aligned)) word.place
    (omega (arith, word.burst.aligned, word.place)) (omega (arith, word.burst.long, word.fits))
    (λ i k. lt-ltb i n (omega (arith, k, word.burst.aligned, word.place)))

pub stored_left : (n first at : ℕ) (image r : List ℕ) → n ≤ first + at
    → r ≡ map_from (on_word (first + at) (before n (image_byte image))) first r
unfolding before image_byte
stored_left n first at image r h = word_left _ (first + at) first image r (λ i k. le-ltb i n (omega (arith, k)))

-- ---- the loop over the words: m is the burst at its head

pub words_again : (f : ℕ → ℕ → ℕ) (first at : ℕ) (r m out : List ℕ) → Burst r first → at % 4 ≡ 0
    → m ≡ map_from (before (first + at) f) first r → out ≡ map_from (on_word (first + at) f) first m
    → out ≡ map_from (before (first + (at + 4)) f) first r
words_again f first at r m out burst place = words_step f first r at m out (omega (arith, burst.aligned)) place

pub words_all : (f : ℕ → ℕ → ℕ) (first at : ℕ) (r m : List ℕ) → Burst r first → m ≡ map_from (before (first + at) f) first r
    → burst_size ≤ at → m ≡ map_from f first r
words_all f first at r m burst e h = words_done f first r at m e (omega (arith, burst.long))

-- the same where k words are done
pub next_word : (f : ℕ → ℕ → ℕ) (first k : ℕ) (r m out : List ℕ) → Burst r first
    → m ≡ map_from (before (first + k * 4) f) first r → out ≡ map_from (on_word (first + k * 4) f) first m
    → out ≡ map_from (before (first + (k + 1) * 4) f) first r
next_word f first k r m out burst e w =
    let next : k * 4 + 4 ≡ (k + 1) * 4 = omega arith in
    words_again f first (k * 4) r m out burst (omega arith) e w ∙ ap (λ (n : ℕ). map_from (before (first + n) f) first r) next

pub last_word : (f : ℕ → ℕ → ℕ) (first k : ℕ) (r m : List ℕ) → Burst r first → m ≡ map_from (before (first + k * 4) f) first r
    → burst_size / 4 ≤ k → m ≡ map_from f first r
last_word f first k r m burst e h = words_all f first (k * 4) r m burst e (omega (arith, h))

pub length_mapped : (f : ℕ → ℕ → ℕ) (first n : ℕ) (r out : List ℕ) → out ≡ map_from f first r → length r ≡ n → length out ≡ n
length_mapped f first n r out e h = ap length e ∙ length_map_from f first r ∙ h
