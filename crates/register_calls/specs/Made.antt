-- What the code of the two calls makes, in the definitions' terms.
use Rattle.std.specs.Prelude.{◌≡◌, Bool, List, [], ◌∷◌, ◌++◌, ℕ, ◌+◌, ◌≤◌, ◌<◌, ltb, length, get_or, replicate, Result, Ok, Err}
use Rattle.std.proofs.Math.Path.{refl, ap}
use Rattle.std.proofs.Common.{sym, ◌∙◌, append_assoc, arith, length-append}
use Rattle.std.proofs.Math.Bool.{true, false}
use borrow.Author.Tests.{lt-ltb, le-ltb}
use Rattle.words.specs.Choice.{pick, either}
use Rattle.words.specs.Parts.{splice}
use Rattle.words.specs.Words.{le_bytes}
use Rattle.words.proofs.Words.{length_le_bytes}
use Rattle.hcr.specs.declared.HcrCommand.{HcrCommand}
use Rattle.hcr.specs.Register.{bit, command_of, well_formed, read_rows, read_of}
use Rattle.hcr.specs.Register.{register_of, write_rows, write_of, bytes_after, written_of, write_answer_number}
use Rattle.hcr.proofs.WordList.{splice_more}
use Rattle.hcr.specs.declared.ReadError.{ReadError}
use Rattle.hcr.specs.declared.WriteError.{WriteError}
use Rattle.hcr.specs.declared.ReadError.TheVariants as readError
use Rattle.hcr.specs.declared.WriteError.TheVariants as writeError
use Rattle.register_calls.specs.Calls.{Left, left, fields_of, command_in, read_call, write_call}

-- ---- the fields, stored one behind the other

-- ys right behind the first n bytes, which are xs: m is the list before it
more : (n : ℕ) (xs ys l m : List ℕ) → length xs ≡ n → m ≡ splice 0 xs l → n ≤ length l → splice n ys m ≡ splice 0 (xs ++ ys) l
more n xs ys l m k e h =
    let z : 0 + length xs ≡ n = omega (arith, k) in
    rw (e, ← z) (splice_more 0 xs ys l (omega (arith, k)))

module _ (a b i t p d z l : List ℕ) (la : length a ≡ 8) (lb : length b ≡ 8) (li : length i ≡ 4) (lt : length t ≡ 2) (lp : length p ≡ 2)
    (ld : length d ≡ 2) (h : 32 ≤ length l) where
  l₂ : length (a ++ b) ≡ 16
  l₂ = omega (arith, length-append a b)

  l₃ : length ((a ++ b) ++ i) ≡ 20
  l₃ = omega (arith, length-append (a ++ b) i, l₂)

  l₄ : length (((a ++ b) ++ i) ++ t) ≡ 22
  l₄ = omega (arith, length-append ((a ++ b) ++ i) t, l₃)

  l₅ : length ((((a ++ b) ++ i) ++ t) ++ p) ≡ 24
  l₅ = omega (arith, length-append (((a ++ b) ++ i) ++ t) p, l₄)

  l₆ : length (((((a ++ b) ++ i) ++ t) ++ p) ++ d) ≡ 26
  l₆ = omega (arith, length-append ((((a ++ b) ++ i) ++ t) ++ p) d, l₅)

  -- m₁ to m₆ are the list as it stands between the stores
  stored : (m₁ m₂ m₃ m₄ m₅ m₆ : List ℕ) → m₆ ≡ splice 24 d m₅ → m₅ ≡ splice 22 p m₄ → m₄ ≡ splice 20 t m₃ → m₃ ≡ splice 16 i m₂
      → m₂ ≡ splice 8 b m₁ → m₁ ≡ splice 0 a l → splice 26 z m₆ ≡ splice 0 (a ++ (b ++ (i ++ (t ++ (p ++ (d ++ z)))))) l
  stored m₁ m₂ m₃ m₄ m₅ m₆ e₆ e₅ e₄ e₃ e₂ e₁ =
      let f₂ : m₂ ≡ splice 0 (a ++ b) l = e₂ ∙ more 8 a b l m₁ la e₁ (omega arith) in
      let f₃ : m₃ ≡ splice 0 ((a ++ b) ++ i) l = e₃ ∙ more 16 (a ++ b) i l m₂ l₂ f₂ (omega arith) in
      let f₄ : m₄ ≡ splice 0 (((a ++ b) ++ i) ++ t) l = e₄ ∙ more 20 ((a ++ b) ++ i) t l m₃ l₃ f₃ (omega arith) in
      let f₅ : m₅ ≡ splice 0 ((((a ++ b) ++ i) ++ t) ++ p) l = e₅ ∙ more 22 (((a ++ b) ++ i) ++ t) p l m₄ l₄ f₄ (omega arith) in
      let f₆ : m₆ ≡ splice 0 (((((a ++ b) ++ i) ++ t) ++ p) ++ d) l =
      e₆ ∙ more 24 ((((a ++ b) ++ i) ++ t) ++ p) d l m₅ l₅ f₅ (omega arith) in
      more 26 (((((a ++ b) ++ i) ++ t) ++ p) ++ d) z l m₆ l₆ f₆ (omega arith)
      ∙ ap (λ (xs : List ℕ). splice 0 xs l) (simp append_assoc)

pub fields_put : (c : HcrCommand) (f : ℕ) (l m₁ m₂ m₃ m₄ m₅ m₆ o : List ℕ)
    → o ≡ splice 26 (replicate 6 0) m₆
    → m₆ ≡ splice 24 (c.op_modifier ∷ f ∷ []) m₅
    → f ≡ bit c.event
    → m₅ ≡ splice 22 (le_bytes 2 c.op) m₄
    → m₄ ≡ splice 20 (le_bytes 2 c.token) m₃
    → m₃ ≡ splice 16 (le_bytes 4 c.in_modifier) m₂
    → m₂ ≡ splice 8 (le_bytes 8 c.out_param) m₁
    → m₁ ≡ splice 0 (le_bytes 8 c.in_param) l
    → 32 ≤ length l
    → o ≡ splice 0 (fields_of c) l
unfolding fields_of
fields_put c f l m₁ m₂ m₃ m₄ m₅ m₆ o e₂₆ e₂₄ f-is e₂₂ e₂₀ e₁₆ e₈ e₀ h =
    e₂₆
    ∙ stored (le_bytes 8 c.in_param) (le_bytes 8 c.out_param) (le_bytes 4 c.in_modifier) (le_bytes 2 c.token)
    (le_bytes 2 c.op) (c.op_modifier ∷ bit c.event ∷ []) (replicate 6 0) l (length_le_bytes 8 _) (length_le_bytes 8 _)
    (length_le_bytes 4 _) (length_le_bytes 2 _) (length_le_bytes 2 _) refl h m₁ m₂ m₃ m₄ m₅ m₆
    (e₂₄ ∙ ap (λ (x : ℕ). splice 24 (c.op_modifier ∷ x ∷ []) m₅) f-is) e₂₂ e₂₀ e₁₆ e₈ e₀

-- ---- the reader's answers

-- what is left of the fields at each answer of the register's reader
abbrev pub fields_left : Result HcrCommand ReadError → List ℕ → Left
fields_left (Ok c) fields = left 0 (splice 0 (fields_of c) fields)
fields_left (Err readError.Short) fields = left 0x83 fields
fields_left (Err readError.Malformed) fields = left 3 fields

module _ (hcr fields : List ℕ) where
  pub read_short : length fields < 32 → left 0x83 fields ≡ read_call hcr fields
  unfolding read_call
  read_short h = rw (lt-ltb (length fields) 32 h) (go (ltb (length hcr) 28))
    where
      go : (b : Bool) → left 0x83 fields
          ≡ pick (either b true) (left 0x83 fields)
          (pick (well_formed hcr) (left 0 (splice 0 (fields_of (command_of hcr)) fields)) (left 3 fields))
      go true = refl
      go false = refl

  pub read_made : 32 ≤ length fields → fields_left (read_of hcr) fields ≡ read_call hcr fields
  unfolding read_call read_of read_rows
  read_made h = rw (le-ltb (length fields) 32 h) (go (ltb (length hcr) 28) (well_formed hcr))
    where
      go : (b w : Bool) → fields_left (pick b (Err readError.Short) (pick w (Ok (command_of hcr)) (Err readError.Malformed))) fields
          ≡ pick (either b false) (left 0x83 fields)
          (pick w (left 0 (splice 0 (fields_of (command_of hcr)) fields)) (left 3 fields))
      go true w = refl
      go false true = refl
      go false false = refl

  module _ (long : 32 ≤ length fields) (a : Result HcrCommand ReadError) (is : a ≡ read_of hcr) where
    pub on_command : (c : HcrCommand) (out : List ℕ) → a ≡ Ok c → out ≡ splice 0 (fields_of c) fields
        → left 0 out ≡ read_call hcr fields
    on_command c out e f = ap (left 0) f ∙ ap (λ (x : Result HcrCommand ReadError). fields_left x fields) (sym e ∙ is) ∙ read_made long

    pub on_short : a ≡ Err readError.Short → left 0x83 fields ≡ read_call hcr fields
    on_short e = ap (λ (x : Result HcrCommand ReadError). fields_left x fields) (sym e ∙ is) ∙ read_made long

    pub on_malformed : a ≡ Err readError.Malformed → left 3 fields ≡ read_call hcr fields
    on_malformed e = ap (λ (x : Result HcrCommand ReadError). fields_left x fields) (sym e ∙ is) ∙ read_made long

-- ---- the writer's answers

module _ (hcr fields : List ℕ) where
  pub hcr_short : length hcr < 28 → left 0x83 hcr ≡ write_call hcr fields
  unfolding write_call
  hcr_short h = rw (lt-ltb (length hcr) 28 h)

  module _ (long : 28 ≤ length hcr) where
    pub fields_short : length fields < 32 → left 0x83 hcr ≡ write_call hcr fields
    unfolding write_call
    fields_short h = rw (le-ltb (length hcr) 28 long, lt-ltb (length fields) 32 h)

    module _ (long-fields : 32 ≤ length fields) where
      pub bad_event : 1 < get_or fields 25 0 → left 3 hcr ≡ write_call hcr fields
      unfolding write_call
      bad_event h = rw (le-ltb (length hcr) 28 long, le-ltb (length fields) 32 long-fields, lt-ltb 1 (get_or fields 25 0) h)

      -- n is the answer's number, and out what the register's writer left
      pub write_made : get_or fields 25 0 ≤ 1 → (c : HcrCommand) (a : Result (Unit {0}) WriteError) (n : ℕ) (out : List ℕ)
          → c ≡ command_in fields → n ≡ write_answer_number a → a ≡ write_of c hcr → out ≡ written_of c hcr
          → left n out ≡ write_call hcr fields
      unfolding write_call write_of write_rows written_of bytes_after
      write_made h c a n out e f g k =
          ap (left n) k
          ∙ ap (λ (x : ℕ). left x (written_of c hcr)) (f ∙ ap write_answer_number g)
          ∙ ap (λ (x : HcrCommand). left (write_answer_number (write_of x hcr)) (written_of x hcr)) e
          ∙ rw (le-ltb (length hcr) 28 long, le-ltb (length fields) 32 long-fields, le-ltb 1 (get_or fields 25 0) h)
          (go (ltb 0xfff (command_in fields).op))
        where
          go : (b : Bool) → left (write_answer_number (pick b (Err writeError.BadOp) (Ok tt)))
              (bytes_after (pick b (Err writeError.BadOp) (Ok tt)) (command_in fields) hcr)
              ≡ pick b (left 3 hcr) (left 0 (splice 0 (register_of (command_in fields)) hcr))
          go true = refl
          go false = refl
