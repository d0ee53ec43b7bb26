-- Reading looks at the first 28 bytes alone, and writing changes no others (01, The command register).
use Rattle.std.specs.Prelude.{◌≡◌, refl, List, ◌++◌, ℕ, ◌+◌, ◌≤◌, ltb, length, drop, Result, Ok, Err}
use Rattle.std.proofs.Common.{sym, ◌∙◌, zero-add, arith, lit≤, length-append}
use Rattle.std.proofs.Math.Path.{ap}
use borrow.Author.Tests.{ltb-false, le-ltb}
use Rattle.words.specs.Choice.{pick}
use Rattle.words.proofs.Choice.{by_pick}
use Rattle.words.specs.Parts.{part, splice}
use Rattle.words.proofs.Parts.{length_part, part_part}
use Rattle.words.proofs.Tails.{part_left, splice_rest}
use Rattle.words.specs.Words.{le32, le_value}
use Rattle.hcr.specs.declared.HcrCommand.{HcrCommand}
use Rattle.hcr.specs.Register.{param_at, command_of, well_formed, read_rows, read_of, register_of, write_rows, write_of}
use Rattle.hcr.specs.Register.{bytes_after, written_of}
use Rattle.hcr.proofs.WordList.{length_register_of}
use Rattle.hcr.specs.declared.WriteError.{WriteError}
use Rattle.hcr.specs.declared.WriteError.TheVariants as writeError

module _ (c : HcrCommand) (h : List ℕ) where
  -- what holds of the bytes as they were and with the command at their front holds of what the writer leaves
  by_answer : (P : List ℕ → Type 0) → P h → (28 ≤ length h → P (splice 0 (register_of c) h)) → P (written_of c h)
  unfolding written_of write_of write_rows bytes_after
  by_answer P same done =
      by_pick (λ (a : Result (Unit {0}) WriteError). P (bytes_after a c h)) (ltb (length h) 28)
      (Err writeError.Short) (pick (ltb 0xfff c.op) (Err writeError.BadOp) (Ok tt))
      (λ e. same)
      (λ e. by_pick (λ (a : Result (Unit {0}) WriteError). P (bytes_after a c h)) (ltb 0xfff c.op) (Err writeError.BadOp) (Ok tt)
      (λ f. same)
      (λ f. done (ltb-false (length h) 28 e)))

  -- the writer leaves all that stands behind the first 28, its length too
  pub rest_stays : drop 28 (written_of c h) ≡ drop 28 h
  rest_stays = by_answer (λ (l : List ℕ). drop 28 l ≡ drop 28 h) refl (λ p. kept p)
    where
      kept : 28 ≤ length h → drop 28 (splice 0 (register_of c) h) ≡ drop 28 h
      kept p =
          let e : 0 + length (register_of c) ≡ 28 = omega (arith, length_register_of c) in
          rw e at (splice_rest 0 (register_of c) h (omega (arith, length_register_of c)))

-- The reader's answer comes from the first 28 bytes.
module _ (h : List ℕ) (long : 28 ≤ length h) where
  word_front : (at : ℕ) → at + 4 ≤ 28 → le32 at (part 0 28 h) ≡ le32 at h
  unfolding le32
  word_front at p = ap le_value (part_part 0 28 at 4 h long p) ∙ ap (λ (n : ℕ). le_value (part n 4 h)) (zero-add at)

  pub read_front : read_of (part 0 28 h) ≡ read_of h
  unfolding read_of read_rows well_formed command_of param_at
  read_front =
      rw (
        le-ltb (length h) 28 long,
        length_part 0 28 h long,
        word_front 0x00 (lit≤ tt),
        word_front 0x04 (lit≤ tt),
        word_front 0x08 (lit≤ tt),
        word_front 0x0c (lit≤ tt),
        word_front 0x10 (lit≤ tt),
        word_front 0x14 (lit≤ tt),
        word_front 0x18 (lit≤ tt),
      )

-- So what stands behind them is not looked at.
pub read_left : (h tail : List ℕ) → 28 ≤ length h → read_of (h ++ tail) ≡ read_of h
read_left h tail long =
    sym (read_front (h ++ tail) (omega (arith, length-append h tail)))
    ∙ ap read_of (part_left 0 28 h tail long)
    ∙ read_front h long
