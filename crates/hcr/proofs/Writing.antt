-- What the writer's code leaves behind, in the definitions' terms.
use Rattle.std.specs.Prelude.{◌≡◌, refl, List, [], ◌∷◌, ◌++◌, ℕ, ◌+◌, ◌*◌, ◌/◌, ◌%◌, ◌^◌, ◌≤◌, ◌<◌, length, Ok, Err}
use Rattle.std.proofs.Common.{◌∙◌, arith, lt-ltb, le-ltb}
use Rattle.words.specs.Parts.{splice}
use Rattle.words.specs.Words.{le_bytes}
use Rattle.hcr.specs.declared.HcrCommand.{HcrCommand}
use Rattle.hcr.specs.Register.{le_words, word14, word18, words_of, register_of, write_rows, write_of, bytes_after}
use Rattle.hcr.specs.Register.{written_of, write_answer_number}
use Rattle.hcr.proofs.WordList.{one_word, words_more}
use Rattle.hcr.specs.declared.WriteError.TheVariants as writeError

-- One word right behind the words us: m is the list before it.
word_more : (at : ℕ) (us : List ℕ) (w : ℕ) (l m : List ℕ) → m ≡ splice at (le_words us) l → at + 4 * length us ≤ length l
    → splice (at + 4 * length us) (le_bytes 4 w) m ≡ splice at (le_words (us ++ w ∷ [])) l
word_more at us w l m e h = rw one_word (words_more at us (w ∷ []) l m e h)

-- A parameter, as its two words: m is the list between the two.
pub two_words : (at v a b : ℕ) (l m o : List ℕ) → o ≡ splice (at + 4) (le_bytes 4 b) m → m ≡ splice at (le_bytes 4 a) l
    → a ≡ v / 2 ^ 32 → b ≡ v % 2 ^ 32 → at + 8 ≤ length l → o ≡ splice at (le_words (v / 2 ^ 32 ∷ v % 2 ^ 32 ∷ [])) l
two_words at v a b l m o e f p q h =
    e ∙ rw (← p, ← q) (word_more at (a ∷ []) b l m (f ∙ rw one_word) (omega arith))

-- The register: m₁ to m₄ are the list as it stands between the writes.
pub seven_words : (c : HcrCommand) (t w : ℕ) (l m₁ m₂ m₃ m₄ o : List ℕ)
    → o ≡ splice 0x18 (le_bytes 4 w) m₄
    → w ≡ word18 c.event c.op_modifier c.op
    → m₄ ≡ splice 0x14 (le_bytes 4 t) m₃
    → t ≡ word14 c.token
    → m₃ ≡ splice 0x0c (le_words (c.out_param / 2 ^ 32 ∷ c.out_param % 2 ^ 32 ∷ [])) m₂
    → m₂ ≡ splice 0x08 (le_bytes 4 c.in_modifier) m₁
    → m₁ ≡ splice 0x00 (le_words (c.in_param / 2 ^ 32 ∷ c.in_param % 2 ^ 32 ∷ [])) l
    → 28 ≤ length l
    → o ≡ splice 0 (register_of c) l
unfolding register_of words_of
seven_words c t w l m₁ m₂ m₃ m₄ o e₁₈ p e₁₄ q e₀c e₀₈ e₀₀ h =
    e₁₈ ∙ rw (← p, ← q) (word_more 0 (a ∷ b ∷ i ∷ d ∷ f ∷ t ∷ []) w l m₄ fourth (omega arith))
  where
    a : ℕ
    a = c.in_param / 2 ^ 32

    b : ℕ
    b = c.in_param % 2 ^ 32

    i : ℕ
    i = c.in_modifier

    d : ℕ
    d = c.out_param / 2 ^ 32

    f : ℕ
    f = c.out_param % 2 ^ 32

    second : m₂ ≡ splice 0 (le_words (a ∷ b ∷ i ∷ [])) l
    second = e₀₈ ∙ word_more 0 (a ∷ b ∷ []) i l m₁ e₀₀ (omega arith)

    third : m₃ ≡ splice 0 (le_words (a ∷ b ∷ i ∷ d ∷ f ∷ [])) l
    third = e₀c ∙ words_more 0 (a ∷ b ∷ i ∷ []) (d ∷ f ∷ []) l m₂ second (omega arith)

    fourth : m₄ ≡ splice 0 (le_words (a ∷ b ∷ i ∷ d ∷ f ∷ t ∷ [])) l
    fourth = e₁₄ ∙ word_more 0 (a ∷ b ∷ i ∷ d ∷ f ∷ []) t l m₃ third (omega arith)

-- The writer's three answers, each with its number and the bytes that it leaves.
pub answers_short : (c : HcrCommand) (h : List ℕ) → length h < 28
    → (Err writeError.Short ≡ write_of c h) × (write_answer_number (Err writeError.Short) ≡ write_rows c h 0x83 3 0) × (h ≡ written_of c h)
unfolding write_rows write_of written_of bytes_after
answers_short c h p = rw (lt-ltb (length h) 28 p) (refl, refl, refl)

pub answers_bad_op : (c : HcrCommand) (h : List ℕ) → 28 ≤ length h → 0xfff < c.op
    → (Err writeError.BadOp ≡ write_of c h) × (write_answer_number (Err writeError.BadOp) ≡ write_rows c h 0x83 3 0) × (h ≡ written_of c h)
unfolding write_rows write_of written_of bytes_after
answers_bad_op c h p q = rw (le-ltb (length h) 28 p, lt-ltb 0xfff c.op q) (refl, refl, refl)

pub answers_done : (c : HcrCommand) (h after : List ℕ) → 28 ≤ length h → c.op ≤ 0xfff → after ≡ splice 0 (register_of c) h
    → (Ok tt ≡ write_of c h) × (write_answer_number (Ok tt) ≡ write_rows c h 0x83 3 0) × (after ≡ written_of c h)
unfolding write_rows write_of written_of bytes_after
answers_done c h after p q e = rw (le-ltb (length h) 28 p, le-ltb 0xfff c.op q) (refl, refl, e)
