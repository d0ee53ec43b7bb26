-- Words that follow each other in a list of bytes: written one after the other, and read back.
use Rattle.std.specs.Prelude.{◌≡◌, refl, List, [], ◌∷◌, ◌++◌, ℕ, zero, suc, ◌+◌, ◌*◌, ◌^◌, ◌≤◌, ◌<◌, length, get_or, take, drop}
use Rattle.std.proofs.Common.{sym, ◌∙◌, ap, append_assoc, append-nil, add_assoc, arith, lit<, length-append, length-take-le, take-add, take_at, drop_at, drop-drop}
use Rattle.std.proofs.Math.Decide.{dec_lt}
use Rattle.std.proofs.Math.ListN.{get_or-eq_default}
use Rattle.std.proofs.Math.Seq.{split_at}
use Rattle.words.proofs.Leaves.{le_four, le32_is}
use Rattle.words.specs.Parts.{part, splice}
use Rattle.words.proofs.Parts.{length_part, get_or_part}
use Rattle.words.specs.Words.{AreBytes, le_value, le_bytes, le32}
use Rattle.words.proofs.Words.{le_round, le_back, length_le_bytes}
use Rattle.hcr.specs.declared.HcrCommand.{HcrCommand}
use Rattle.hcr.specs.Register.{le_words, words_of, register_of}

-- What is put right behind something that was put there is put there with it.
pub splice_more : (at : ℕ) (xs ys l : List ℕ) → at + length xs ≤ length l
    → splice (at + length xs) ys (splice at xs l) ≡ splice at (xs ++ ys) l
unfolding splice
splice_more at xs ys l h = rw (first, rest) (simp (append_assoc, length-append, add_assoc))
  where
    long : length (take at l ++ xs) ≡ at + length xs
    long = length-append (take at l) xs ∙ ap (λ (n : ℕ). n + length xs) (length-take-le at l (omega arith))

    first : take (at + length xs) (take at l ++ (xs ++ drop (at + length xs) l)) ≡ take at l ++ xs
    first = rw (← append_assoc) (take_at (take at l ++ xs) (drop (at + length xs) l) (at + length xs) long)

    rest : drop (at + length xs + length ys) (take at l ++ (xs ++ drop (at + length xs) l)) ≡ drop (at + length xs + length ys) l
    rest =
        sym (drop-drop (length ys) (at + length xs) (take at l ++ (xs ++ drop (at + length xs) l)))
        ∙ ap (drop (length ys)) (rw (← append_assoc) (drop_at (take at l ++ xs) (drop (at + length xs) l) (at + length xs) long))
        ∙ drop-drop (length ys) (at + length xs) l

pub length_le_words : (ws : List ℕ) → length (le_words ws) ≡ 4 * length ws
unfolding le_words
length_le_words [] = refl
length_le_words (w ∷ ws) = simp (length-append, length_le_bytes, length_le_words ws) (omega arith)

pub length_register_of : (c : HcrCommand) → length (register_of c) ≡ 28
unfolding register_of words_of
length_register_of c = length_le_words (words_of c)

pub append_le_words : (us vs : List ℕ) → le_words (us ++ vs) ≡ le_words us ++ le_words vs
unfolding le_words
append_le_words [] vs = refl
append_le_words (w ∷ us) vs =
    ap (λ (l : List ℕ). le_bytes 4 w ++ l) (append_le_words us vs)
    ∙ sym (append_assoc (le_bytes 4 w) (le_words us) (le_words vs))

-- One word.
pub one_word : (w : ℕ) → le_bytes 4 w ≡ le_words (w ∷ [])
unfolding le_words
one_word w = sym (append-nil (le_bytes 4 w))

-- Words written right behind words that were written: m is the list after those.
pub words_more : (at : ℕ) (us vs l m : List ℕ) → m ≡ splice at (le_words us) l → at + 4 * length us ≤ length l
    → splice (at + 4 * length us) (le_words vs) m ≡ splice at (le_words (us ++ vs)) l
words_more at us vs l m e h =
    rw (e, ← length_le_words, append_le_words) (splice_more at (le_words us) (le_words vs) l (omega (arith, length_le_words us)))

-- A part that stands between two others.
pub part_mid : (n k : ℕ) (xs ys zs : List ℕ) → length xs ≡ n → length ys ≡ k → part n k (xs ++ (ys ++ zs)) ≡ ys
unfolding part
part_mid n k xs ys zs e f = rw drop_at (take_at ys zs k f)

-- A word that was written with others at the front of a list is read there.
between : (us : List ℕ) (w : ℕ) (vs l : List ℕ) → w < 2 ^ 32 → le32 (4 * length us) (splice 0 (le_words (us ++ w ∷ vs)) l) ≡ w
unfolding le32 splice le_words
between us w vs l h = ap le_value (ap (part (4 * length us) 4) spread ∙ found) ∙ le_round 4 w h
  where
    behind : List ℕ
    behind = drop (0 + length (le_words (us ++ w ∷ vs))) l

    found : part (4 * length us) 4 (le_words us ++ (le_bytes 4 w ++ (le_words vs ++ behind))) ≡ le_bytes 4 w
    found = part_mid _ 4 (le_words us) (le_bytes 4 w) _ (length_le_words us) (length_le_bytes 4 w)

    spread : le_words (us ++ w ∷ vs) ++ behind ≡ le_words us ++ (le_bytes 4 w ++ (le_words vs ++ behind))
    spread = ap (λ (ys : List ℕ). ys ++ behind) (append_le_words us (w ∷ vs)) ∙ simp append_assoc

pub word_read : (k : ℕ) (ws l : List ℕ) → k < length ws → get_or ws k 0 < 2 ^ 32 → le32 (4 * k) (splice 0 (le_words ws) l) ≡ get_or ws k 0
word_read k ws l h f =
    ap (λ (vs : List ℕ). le32 (4 * k) (splice 0 (le_words vs) l)) (split_at ws k 0 h)
    ∙ ap (λ (n : ℕ). le32 (4 * n) (splice 0 (le_words (take k ws ++ get_or ws k 0 ∷ drop (suc k) ws)) l))
    (sym (length-take-le k ws (omega arith)))
    ∙ between (take k ws) (get_or ws k 0) (drop (suc k) ws) l f

-- The n words of a list of bytes from at.
unfoldable pub words_at : ℕ → ℕ → List ℕ → List ℕ
words_at zero at l = []
words_at (suc n) at l = le32 at l ∷ words_at n (at + 4) l

-- A part of a list of bytes has bytes.
pub bytes_part : (at n : ℕ) (l : List ℕ) → at + n ≤ length l → AreBytes l → AreBytes (part at n l)
bytes_part at n l h a i = each (dec_lt i n)
  where
    each : Dec (i < n) → get_or (part at n l) i 0 < 256
    each (yes y) = rw get_or_part (a (at + i))
    each (no y) =
        let e : length (part at n l) ≤ i = omega (arith, length_part at n l h) in
        rw (get_or-eq_default (part at n l) 0 e) (lit< tt)

pub le32_small : (at : ℕ) (l : List ℕ) → at + 4 ≤ length l → AreBytes l → le32 at l < 2 ^ 32
le32_small at l h a =
    rw (← le32_is at l h, le_four) (omega (arith, a at, a (at + 1), a (at + 2), a (at + 3)))

-- The bytes of a word that was read are the bytes that it was read from.
pub word_back : (at : ℕ) (l : List ℕ) → at + 4 ≤ length l → AreBytes l → le_bytes 4 (le32 at l) ≡ part at 4 l
unfolding le32
word_back at l h a =
    ap (λ (n : ℕ). le_bytes n (le_value (part at 4 l))) (sym (length_part at 4 l h)) ∙ le_back (part at 4 l) (bytes_part at 4 l h a)

pub words_back : (n at : ℕ) (l : List ℕ) → at + 4 * n ≤ length l → AreBytes l → le_words (words_at n at l) ≡ part at (4 * n) l
unfolding le_words words_at part
words_back zero at l h a = refl
words_back (suc n) at l h a =
    let e : 4 * suc n ≡ 4 + 4 * n = omega arith in
    rw (word_back at l (omega arith) a, words_back n (at + 4) l (omega arith) a, e, take-add, drop-drop)
