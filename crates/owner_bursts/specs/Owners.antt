-- A burst of a record that has an owner: SW2HW, and RESIZE_CQ.
use Rattle.std.specs.Prelude.{◌≡◌, refl, List, ◌⊎◌, ℕ, ◌+◌, ◌-◌, ◌%◌, ◌≤◌, ◌<◌, eqb, length, get_or, set, replicate}
use Rattle.std.proofs.Common.{sym, ◌∙◌, ap, inl, inr, arith, ne_eqb}
use Rattle.std.proofs.Math.Decide.{dec_lt, ℕ_discrete}
use Rattle.words.specs.Choice.{pick}
use Rattle.words.proofs.Tests.{within_yes, within_no}
use Rattle.words.specs.Parts.{part, splice}
use Rattle.words.proofs.Parts.{length_part, get_or_part}
use Rattle.words.specs.Maps.{map_from}
use Rattle.words.proofs.Maps.{map_map}
use Rattle.requests.specs.declared.Owned.{Owned}
use Rattle.requests.specs.declared.Owned.TheVariants as owned
use Rattle.mailboxes.specs.Mailboxes.{stored_of}
use Rattle.burst_table.specs.Sizes.{burst_size}
use Rattle.byte_rule.specs.Taken.{word_of}
use Rattle.byte_rule.specs.Bytes.{sw2hw_byte, resize_byte}
use Rattle.word_moves.specs.Places.{on_word, before, image_byte, Burst}
use Rattle.word_moves.specs.Maps.{map_put, map_agrees, map_leaves}
use Rattle.word_moves.specs.Copies.{on_word_lem, off_word, splice_word}
use Rattle.owner_bursts.specs.Maps.{zero_map, one_put}

-- what SW2HW leaves behind the stored bytes: the hardware's 1 in byte 63, the owner's, and else 0 (01, The context store)
unfoldable pub owner_byte : ℕ → ℕ → ℕ
owner_byte i b = pick (eqb i 63) 1 0

-- ---- SW2HW

-- m is the burst made zero; the owner's byte is the last of the fourth burst
pub owner_put : (first : ℕ) (r m : List ℕ) → Burst r first → m ≡ replicate burst_size 0 → first ≡ 48 → set m 15 1 ≡ map_from owner_byte first r
unfolding owner_byte
owner_put first r m burst e h =
    map_put (λ i b. 0) (λ i b. 1) first 15 1 m r zero (omega (arith, ap length e)) refl
    ∙ ap (λ (n : ℕ). map_from (λ i b. pick (eqb i (n + 15)) 1 0) first r) h
  where
    zero : m ≡ map_from (λ i b. 0) first r
    zero = zero_map first r m burst.long e

pub owner_apart : (first : ℕ) (r m : List ℕ) → Burst r first → m ≡ replicate burst_size 0 → ¬ (first ≡ 48) → m ≡ map_from owner_byte first r
unfolding owner_byte
owner_apart first r m burst e n =
    zero_map first r m burst.long e
    ∙ map_agrees _ _ first r
    (λ i b h k. sym (rw (ne_eqb i 63 (λ z. n (omega (arith, burst.long, burst.aligned))))))

-- what a record stores is a number of words
pub stored_words : (o : Owned) → stored_of o % 4 ≡ 0
stored_words (owned.Mpt n) = refl
stored_words (owned.Eq n) = refl
stored_words (owned.Cq n) = refl

-- n is the number of bytes as the call answered it
pub sw2hw_made : (o : Owned) (n first : ℕ) (image r m out : List ℕ) → n ≡ stored_of o → m ≡ map_from owner_byte first r
    → out ≡ map_from (before n (image_byte image)) first m → out ≡ map_from (λ i b. sw2hw_byte o image i) first r
unfolding owner_byte before image_byte sw2hw_byte
sw2hw_made o n first image r m out k g w = w ∙ rw (k, g) (map_map _ _ first r)

-- ---- RESIZE_CQ

resize_apart : (image : List ℕ) (i b : ℕ) → ¬ (i ≡ 0x0c) → (i < 0x18) ⊎ (0x1b < i) → resize_byte image i b ≡ b
unfolding resize_byte
resize_apart image i b n o = rw (ne_eqb i 0x0c n, within_no 0x18 0x1b i o)

resize_first : (image : List ℕ) (b : ℕ) → resize_byte image 0x0c b ≡ get_or image 0 0
unfolding resize_byte
resize_first image b = refl

resize_within : (image : List ℕ) (i b : ℕ) → 0x18 ≤ i → i ≤ 0x1b → resize_byte image i b ≡ get_or image (i - 0x14) 0
unfolding resize_byte
resize_within image i b h k = rw (ne_eqb i 0x0c (λ e. omega arith), within_yes 0x18 0x1b i h k)

pub resize_put : (first : ℕ) (image r : List ℕ) → Burst r first → first ≡ 0
    → set r 0x0c (get_or image 0 0) ≡ map_from (resize_byte image) first r
resize_put first image r burst z =
    rw z
    (one_put (resize_byte image) 0 0x0c (get_or image 0 0) r (omega (arith, burst.long)) (sym (resize_first image (get_or r 0x0c 0)))
    (λ i b h k n. resize_apart image i b n (inl (omega (arith, burst.long)))))

pub resize_left : (first : ℕ) (image r : List ℕ) → Burst r first → ¬ (first ≡ 0) → ¬ (first ≡ 0x10)
    → r ≡ map_from (resize_byte image) first r
resize_left first image r burst n m =
    map_leaves (resize_byte image) first r
    (λ i b h k. resize_apart image i b (λ e. n (omega (arith, burst.aligned))) (inr (omega (arith, burst.aligned, n, m))))

pub resize_copied : (first : ℕ) (image r out : List ℕ) → Burst r first → 8 ≤ length image → first ≡ 0x10 → out ≡ splice 8 (part 4 4 image) r
    → out ≡ map_from (resize_byte image) first r
resize_copied first image r out burst need z w =
    w
    ∙ splice_word (resize_byte image) first 8 r (omega (arith, z)) refl (omega (arith, burst.long)) (part 4 4 image)
    (length_part 4 4 image need) word
    ∙ map_agrees _ _ first r (λ i b h k. each i b h (omega (arith, burst.long)) (ℕ_discrete (word_of i) (first + 8)))
  where
    word : (i : ℕ) → i < 4 → get_or (part 4 4 image) i 0 ≡ resize_byte image (first + (8 + i)) (get_or r (8 + i) 0)
    word i h =
        let e : first + (8 + i) - 0x14 ≡ 4 + i = omega arith in
        get_or_part 4 4 image i h
        ∙ sym (ap (λ (j : ℕ). get_or image j 0) e)
        ∙ sym (resize_within image (first + (8 + i)) (get_or r (8 + i) 0) (omega arith) (omega arith))

    each : (i b : ℕ) → first ≤ i → i < first + burst_size → Dec (word_of i ≡ first + 8)
        → on_word (first + 8) (resize_byte image) i b ≡ resize_byte image i b
    each i b h k (yes e) = sym (on_word_lem (first + 8) (resize_byte image) i b e)
    each i b h k (no e) =
        sym (off_word (first + 8) (resize_byte image) i b e)
        ∙ sym (resize_apart image i b (λ u. omega arith) (side (dec_lt i 0x18)))
      where
        side : Dec (i < 0x18) → (i < 0x18) ⊎ (0x1b < i)
        side (yes y) = inl y
        side (no y) = inr (omega (arith, e))
