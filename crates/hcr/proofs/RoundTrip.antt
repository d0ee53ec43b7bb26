-- Reading undoes writing, and writing undoes reading of well-formed bytes (01, The command register).
use Rattle.std.specs.Prelude.{◌≡◌, refl, true, List, ℕ, ◌+◌, ◌*◌, ◌/◌, ◌%◌, ◌^◌, ◌≤◌, ◌<◌, eqb, length, get_or, Ok}
use Rattle.std.proofs.Common.{sym, ◌∙◌, ap, zero-le, div-add-mod', div-one, arith, eq-eqb, eqb-true, le-ltb, lit<, lit≤}
use Rattle.std.proofs.Math.Nat.{div-eq_of_lt}
use Rattle.words.specs.Choice.{both}
use Rattle.words.proofs.Choice.{both_yes, both_left, both_right}
use Rattle.words.specs.Parts.{part, splice}
use Rattle.words.proofs.Parts.{length_splice}
use Rattle.words.specs.Words.{bits, AreBytes, le32}
use Rattle.hcr.specs.declared.HcrCommand.{HcrCommand}
use Rattle.hcr.specs.Register.{param_at, command_of, well_formed18, well_formed, read_rows, read_of}
use Rattle.hcr.specs.Register.{word14, word18, words_of, register_of, write_of, written_of}
use Rattle.hcr.proofs.Fields.{bit_tested, tested_bit, bit_lt, above}
use Rattle.hcr.proofs.Word18.{event_written, op_modifier_written, op_written, formed_written, word_written}
use Rattle.hcr.proofs.Word18.{token_written, below_token_written}
use Rattle.hcr.proofs.Writing.{answers_done}
use Rattle.hcr.proofs.WordList.{length_register_of, word_read, words_at, le32_small, words_back}

-- Every field's value is one of its type.
pub record Fits (c : HcrCommand) : Type 0 where
  pub in_param_lem : c.in_param < 2 ^ 64
  pub in_modifier_lem : c.in_modifier < 2 ^ 32
  pub out_param_lem : c.out_param < 2 ^ 64
  pub token : c.token < 2 ^ 16
  pub op_modifier_lem : c.op_modifier < 2 ^ 8
  pub op : c.op < 2 ^ 16

-- Writing a command and reading it.
module _ (c : HcrCommand) (h : List ℕ) (fits : Fits c) (low : c.op ≤ 0xfff) where
  abbrev after : List ℕ
  after = splice 0 (register_of c) h

  word : (k : ℕ) → k < 7 → get_or (words_of c) k 0 < 2 ^ 32 → le32 (4 * k) after ≡ get_or (words_of c) k 0
  unfolding register_of words_of
  word k p f = word_read k (words_of c) h p f

  in_param_back : param_at 0x00 after ≡ c.in_param
  unfolding param_at words_of
  in_param_back = rw (word 0 (lit< tt) (omega (arith, fits)), word 1 (lit< tt) (omega (arith, fits))) (div-add-mod' _ _)

  in_modifier_back : le32 0x08 after ≡ c.in_modifier
  unfolding words_of
  in_modifier_back = word 2 (lit< tt) fits.in_modifier_lem

  out_param_back : param_at 0x0c after ≡ c.out_param
  unfolding param_at words_of
  out_param_back = rw (word 3 (lit< tt) (omega (arith, fits)), word 4 (lit< tt) (omega (arith, fits))) (div-add-mod' _ _)

  word_14 : le32 0x14 after ≡ word14 c.token
  unfolding words_of
  word_14 = word 5 (lit< tt) (omega (arith, fits))

  word_18 : le32 0x18 after ≡ word18 c.event c.op_modifier c.op
  unfolding words_of
  word_18 = word 6 (lit< tt) (word_written c.event c.op_modifier c.op _ fits.op_modifier_lem low refl)

  command_back : command_of after ≡ c
  unfolding command_of
  command_back = λ i.
      record {
        in_param = in_param_back i;
        in_modifier = in_modifier_back i;
        out_param = out_param_back i;
        token = token_found i;
        event = event_found i;
        op_modifier = op_modifier_found i;
        op = op_found i;
      }
    where
      token_found : bits 31 16 (le32 0x14 after) ≡ c.token
      token_found = token_written c.token _ word_14 fits.token

      event_found : eqb (bits 22 22 (le32 0x18 after)) 1 ≡ c.event
      event_found =
          ap (λ (x : ℕ). eqb x 1) (event_written c.event c.op_modifier c.op _ fits.op_modifier_lem low word_18)
          ∙ bit_tested c.event

      op_modifier_found : bits 19 12 (le32 0x18 after) ≡ c.op_modifier
      op_modifier_found = op_modifier_written c.event c.op_modifier c.op _ fits.op_modifier_lem low word_18

      op_found : bits 11 0 (le32 0x18 after) ≡ c.op
      op_found = op_written c.event c.op_modifier c.op _ fits.op_modifier_lem low word_18

  formed : well_formed after ≡ true
  unfolding well_formed
  formed =
      both_yes _ _ (formed_written c.event c.op_modifier c.op _ fits.op_modifier_lem low word_18)
      (eq-eqb _ _ (below_token_written c.token _ word_14))

-- An op that the register holds is accepted by bytes that are long enough; such bytes, well formed, are read.
pub accepted : (c : HcrCommand) (h : List ℕ) → 28 ≤ length h → c.op ≤ 0xfff
    → (write_of c h ≡ Ok tt) × (written_of c h ≡ splice 0 (register_of c) h)
accepted c h p q =
    let a = answers_done c h (splice 0 (register_of c) h) p q refl in
    (sym a.0, sym a.2)

pub read_formed : (h : List ℕ) → 28 ≤ length h → well_formed h ≡ true → read_of h ≡ Ok (command_of h)
unfolding read_rows read_of
read_formed h p f = rw (le-ltb (length h) 28 p, f)

-- A command that is written and read is the command.
pub write_read : (c : HcrCommand) (h : List ℕ) → Fits c → c.op ≤ 0xfff → 28 ≤ length h
    → (write_of c h ≡ Ok tt) × (read_of (written_of c h) ≡ Ok c)
write_read c h fits low long =
    let a = accepted c h long low in (
      a.0,
      ap read_of a.1
          ∙ read_formed (splice 0 (register_of c) h) still (formed c h fits low)
          ∙ ap Ok (command_back c h fits low),
    )
  where
    still : 28 ≤ length (splice 0 (register_of c) h)
    still = omega (arith, length_splice 0 (register_of c) h (omega (arith, length_register_of c)))

-- Word 18h, well formed, is put together again from its fields: x is the word above each of them.
from_fields : (w x12 x20 x22 x23 x24 x32 status go e reserved m o : ℕ)
    → w ≡ x12 * 2 ^ 12 + o → x12 ≡ x20 * 2 ^ 8 + m → x20 ≡ x22 * 2 ^ 2 + reserved
    → x22 ≡ x23 * 2 + e → x23 ≡ x24 * 2 + go → x24 ≡ x32 * 2 ^ 8 + status
    → x32 ≡ 0 → status ≡ 0 → go ≡ 1 → reserved ≡ 0 → 1 * 2 ^ 23 + e * 2 ^ 22 + m * 2 ^ 12 + o ≡ w
from_fields w x12 x20 x22 x23 x24 x32 status go e reserved m o e₀ e₁₂ e₂₀ e₂₂ e₂₃ e₂₄ e₃₂ p q r = omega arith

word_again : (w : ℕ) → w < 2 ^ 32 → well_formed18 w ≡ true → word18 (eqb (bits 22 22 w) 1) (bits 19 12 w) (bits 11 0 w) ≡ w
unfolding well_formed18 word18
word_again w h f =
    let zeros : both (eqb (bits 31 24 w) 0) (eqb (bits 21 20 w) 0) ≡ true = both_right (eqb (bits 23 23 w) 1) _ f in
    let go : eqb (bits 23 23 w) 1 ≡ true = both_left _ (both (eqb (bits 31 24 w) 0) (eqb (bits 21 20 w) 0)) f in
    let status : eqb (bits 31 24 w) 0 ≡ true = both_left _ (eqb (bits 21 20 w) 0) zeros in
    let reserved : eqb (bits 21 20 w) 0 ≡ true = both_right (eqb (bits 31 24 w) 0) _ zeros in
    rw (tested_bit (bits 22 22 w) (bit_lt 22 w))
    (from_fields w _ _ _ _ _ _ (bits 31 24 w) (bits 23 23 w) (bits 22 22 w) (bits 21 20 w) (bits 19 12 w) (bits 11 0 w)
    (sym (div-one w) ∙ above 11 0 w zero-le)
    (above 19 12 w (lit≤ tt))
    (above 21 20 w (lit≤ tt))
    (above 22 22 w (lit≤ tt))
    (above 23 23 w (lit≤ tt))
    (above 31 24 w (lit≤ tt))
    (div-eq_of_lt h)
    (eqb-true _ _ status)
    (eqb-true _ _ go)
    (eqb-true _ _ reserved))

token_again : (w : ℕ) → w < 2 ^ 32 → bits 15 0 w ≡ 0 → bits 31 16 w * 2 ^ 16 ≡ w
unfolding bits
token_again w h e = omega arith

-- The two words of a parameter that was read.
module _ (at : ℕ) (h : List ℕ) (bytes : AreBytes h) (long : at + 8 ≤ length h) where
  high_again : param_at at h / 2 ^ 32 ≡ le32 at h
  unfolding param_at
  high_again = omega (arith, le32_small (at + 4) h (omega arith) bytes)

  low_again : param_at at h % 2 ^ 32 ≡ le32 (at + 4) h
  unfolding param_at
  low_again = omega (arith, le32_small (at + 4) h (omega arith) bytes)

-- Reading well-formed bytes and writing.
module _ (h : List ℕ) (bytes : AreBytes h) (long : 28 ≤ length h) (formed-h : well_formed h ≡ true) where
  words_again : words_of (command_of h) ≡ words_at 7 0 h
  unfolding words_of command_of words_at well_formed
  words_again =
      rw (
        high_again 0 h bytes (omega arith),
        low_again 0 h bytes (omega arith),
        high_again 12 h bytes (omega arith),
        low_again 12 h bytes (omega arith),
        token_again (le32 0x14 h) (le32_small 20 h (omega arith) bytes)
            (eqb-true _ _ (both_right (well_formed18 (le32 0x18 h)) _ formed-h)),
        word_again (le32 0x18 h) (le32_small 24 h long bytes) (both_left _ (eqb (bits 15 0 (le32 0x14 h)) 0) formed-h),
      )

  register_again : register_of (command_of h) ≡ part 0 28 h
  unfolding register_of
  register_again = rw words_again (words_back 7 0 h long bytes)

-- An op that was read is one that the register holds.
op_again : (h : List ℕ) → (command_of h).op ≤ 0xfff
unfolding command_of bits
op_again h = omega arith

-- Well-formed bytes that are read and written are the 28 bytes that were read, at the front of any buffer.
pub read_write : (h out : List ℕ) → AreBytes h → 28 ≤ length h → 28 ≤ length out → well_formed h ≡ true
    → (read_of h ≡ Ok (command_of h)) × (write_of (command_of h) out ≡ Ok tt)
    × (written_of (command_of h) out ≡ splice 0 (part 0 28 h) out)
read_write h out bytes long room f =
    let a = accepted (command_of h) out room (op_again h) in
    (read_formed h long f, a.0, a.1 ∙ ap (λ (r : List ℕ). splice 0 r out) (register_again h bytes long f))
