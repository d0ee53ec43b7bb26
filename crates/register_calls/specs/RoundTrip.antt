-- The fields of a command are the command's, and the two calls undo each other.
use Rattle.std.specs.Prelude.{◌≡◌, true, List, [], ◌∷◌, ◌++◌, ℕ, suc, ◌+◌, ◌^◌, ◌≤◌, ◌<◌, eqb, get_or, take, drop, replicate, Result, Ok}
use Rattle.std.proofs.Math.Path.{refl, ap}
use Rattle.std.proofs.Common.{sym, ◌∙◌, append_assoc, append-nil, pow-suc, arith, lit<, take-add}
use Rattle.std.proofs.Math.ListN.{length}
use Rattle.std.proofs.Math.Seq.{drop-cons}
use Rattle.words.specs.Parts.{part, splice}
use Rattle.words.proofs.Parts.{length_part, length_splice}
use Rattle.words.specs.Words.{bits, AreBytes, le_value, le_bytes, le32}
use Rattle.words.proofs.Words.{le_round, le_back}
use Rattle.hcr.specs.declared.HcrCommand.{HcrCommand}
use Rattle.hcr.proofs.Fields.{bit_small, bit_tested, tested_bit}
use Rattle.hcr.specs.Register.{param_at, command_of, well_formed, written_of}
use Rattle.hcr.proofs.RoundTrip.{Fits, read_write, write_read}
use Rattle.hcr.proofs.WordList.{bytes_part, le32_small, word_back}
use Rattle.hcr.specs.declared.ReadError.{ReadError}
use Rattle.register_calls.specs.Calls.{Left, left, fields_of, number_at, command_in, read_call, write_call}
use Rattle.register_calls.specs.Made.{fields_left, read_made, write_made}

-- ---- a command from its fields: r is what stands behind them

module _ (c : HcrCommand) (r : List ℕ) (fits : Fits c) where
  in_param_back : number_at 0 8 (fields_of c ++ r) ≡ c.in_param
  unfolding number_at fields_of le_bytes part
  in_param_back = le_round 8 c.in_param fits.in_param_lem

  out_param_back : number_at 8 8 (fields_of c ++ r) ≡ c.out_param
  unfolding number_at fields_of le_bytes part
  out_param_back = le_round 8 c.out_param fits.out_param_lem

  in_modifier_back : le32 16 (fields_of c ++ r) ≡ c.in_modifier
  unfolding le32 fields_of le_bytes part
  in_modifier_back = le_round 4 c.in_modifier fits.in_modifier_lem

  token_back : number_at 20 2 (fields_of c ++ r) ≡ c.token
  unfolding number_at fields_of le_bytes part
  token_back = le_round 2 c.token fits.token

  op_back : number_at 22 2 (fields_of c ++ r) ≡ c.op
  unfolding number_at fields_of le_bytes part
  op_back = le_round 2 c.op fits.op

  op_modifier_back : get_or (fields_of c ++ r) 24 0 ≡ c.op_modifier
  unfolding fields_of le_bytes
  op_modifier_back = refl

  event_back : eqb (get_or (fields_of c ++ r) 25 0) 1 ≡ c.event
  unfolding fields_of le_bytes
  event_back = bit_tested c.event

  pub fields_behind : command_in (fields_of c ++ r) ≡ c
  unfolding command_in
  fields_behind = λ j.
      record {
        in_param = in_param_back j;
        in_modifier = in_modifier_back j;
        out_param = out_param_back j;
        token = token_back j;
        event = event_back j;
        op_modifier = op_modifier_back j;
        op = op_back j;
      }

pub command_back : (c : HcrCommand) → Fits c → command_in (fields_of c) ≡ c
command_back c fits = ap command_in (sym (append-nil (fields_of c))) ∙ fields_behind c _ fits

-- ---- fields that a command was put into: l is what they held

module _ (c : HcrCommand) (l : List ℕ) where
  pub length_fields : length (fields_of c) ≡ 32
  unfolding fields_of le_bytes
  length_fields = refl

  put_command : Fits c → command_in (splice 0 (fields_of c) l) ≡ c
  unfolding splice
  put_command fits = fields_behind c (drop (0 + length (fields_of c)) l) fits

  put_event : get_or (splice 0 (fields_of c) l) 25 0 ≤ 1
  unfolding splice fields_of le_bytes
  put_event = omega (arith, bit_small c.event)

  put_length : 32 ≤ length l → 32 ≤ length (splice 0 (fields_of c) l)
  put_length h = omega (arith, length_splice 0 (fields_of c) l (omega (arith, length_fields)))

-- the command of a register of bytes has its fields in their types
module _ (h : List ℕ) (bytes : AreBytes h) (long : 28 ≤ length h) where
  param_fits : (at : ℕ) → at + 8 ≤ 28 → param_at at h < 2 ^ 64
  unfolding param_at
  param_fits at k = omega (arith, le32_small at h (omega arith) bytes, le32_small (at + 4) h (omega arith) bytes)

  read_fits : Fits (command_of h)
  unfolding command_of bits
  read_fits =
      record {
        in_param_lem = param_fits 0 (omega arith);
        in_modifier_lem = le32_small 8 h (omega arith) bytes;
        out_param_lem = param_fits 12 (omega arith);
        token = omega arith;
        op_modifier_lem = omega arith;
        op = omega arith;
      }

-- ---- any bytes as fields: the command that they have, and its fields again

value_fits : (l : List ℕ) → AreBytes l → le_value l < 256 ^ length l
unfolding le_value
value_fits [] b = lit< tt
value_fits (x ∷ l) b =
    let k : le_value l < 256 ^ length l = value_fits l (λ i. b (suc i)) in
    rw pow-suc (omega (arith, b 0))

module _ (at n : ℕ) (l : List ℕ) (h : at + n ≤ length l) (bytes : AreBytes l) where
  number_fits : number_at at n l < 256 ^ n
  unfolding number_at
  number_fits = rw (length_part at n l h) at (value_fits (part at n l) (bytes_part at n l h bytes))

  number_back : le_bytes n (number_at at n l) ≡ part at n l
  unfolding number_at
  number_back =
      ap (λ (k : ℕ). le_bytes k (le_value (part at n l))) (sym (length_part at n l h)) ∙ le_back (part at n l) (bytes_part at n l h bytes)

-- the first n and the m behind them
joined : (n m : ℕ) (z l : List ℕ) → part 0 n l ++ (part n m l ++ z) ≡ part 0 (n + m) l ++ z
unfolding part
joined n m z l = sym (append_assoc (take n l) (take m (drop n l)) z) ∙ ap (λ (r : List ℕ). r ++ z) (sym (take-add n m l))

module _ (l : List ℕ) (bytes : AreBytes l) (long : 32 ≤ length l) where
  written_fits : Fits (command_in l)
  unfolding command_in
  written_fits =
      record {
        in_param_lem = number_fits 0 8 l (omega arith) bytes;
        in_modifier_lem = le32_small 16 l (omega arith) bytes;
        out_param_lem = number_fits 8 8 l (omega arith) bytes;
        token = number_fits 20 2 l (omega arith) bytes;
        op_modifier_lem = bytes 24;
        op = number_fits 22 2 l (omega arith) bytes;
      }

  pair : (z : List ℕ) → get_or l 24 0 ∷ get_or l 25 0 ∷ z ≡ part 24 2 l ++ z
  unfolding part
  pair z = rw (drop-cons l 24 0 (omega arith), drop-cons l 25 0 (omega arith))

  all_parts : (z : List ℕ)
      → part 0 8 l ++ (part 8 8 l ++ (part 16 4 l ++ (part 20 2 l ++ (part 22 2 l ++ (part 24 2 l ++ z))))) ≡ part 0 26 l ++ z
  all_parts z = joined 8 8 _ l ∙ joined 16 4 _ l ∙ joined 20 2 _ l ∙ joined 22 2 _ l ∙ joined 24 2 z l

  -- the first 26 bytes, and 0 behind them
  pub fields_again : get_or l 25 0 ≤ 1 → fields_of (command_in l) ≡ part 0 26 l ++ replicate 6 0
  unfolding fields_of command_in
  fields_again flag =
      rw (
        number_back 0 8 l (omega arith) bytes,
        number_back 8 8 l (omega arith) bytes,
        word_back 16 l (omega arith) bytes,
        number_back 20 2 l (omega arith) bytes,
        number_back 22 2 l (omega arith) bytes,
        tested_bit (get_or l 25 0) (omega arith),
        pair (replicate 6 0),
      )
      (all_parts (replicate 6 0))

-- ---- each call undoes the other

-- what the reader gave of a well-formed register, written, is the register's first 28 bytes: out is what they are written over
pub read_written : (hcr fields out : List ℕ) → AreBytes hcr → 28 ≤ length hcr → 32 ≤ length fields → 28 ≤ length out
    → well_formed hcr ≡ true
    → ((read_call hcr fields).answer ≡ 0) × (write_call out (read_call hcr fields).bytes ≡ left 0 (splice 0 (part 0 28 hcr) out))
read_written hcr fields out bytes long room free formed =
    (ap (λ (x : Left). x.answer) given, ap (λ (x : Left). write_call out x.bytes) given ∙ sym written)
  where
    given : read_call hcr fields ≡ left 0 (splice 0 (fields_of (command_of hcr)) fields)
    given = sym (read_made hcr fields room) ∙ ap (λ (x : Result HcrCommand ReadError). fields_left x fields) (read_write hcr out bytes long free formed).0

    written : left 0 (splice 0 (part 0 28 hcr) out) ≡ write_call out (splice 0 (fields_of (command_of hcr)) fields)
    written =
        write_made out (splice 0 (fields_of (command_of hcr)) fields) free (put_length (command_of hcr) fields room)
        (put_event (command_of hcr) fields) (command_of hcr) (Ok tt) 0 (splice 0 (part 0 28 hcr) out)
        (sym (put_command (command_of hcr) fields (read_fits hcr bytes long))) refl
        (sym (read_write hcr out bytes long free formed).1) (sym (read_write hcr out bytes long free formed).2)

-- the fields that the writer took, read, are their first 26 bytes, and 0 behind them: out is what they are written over
pub written_read : (hcr fields out : List ℕ) → AreBytes fields → 28 ≤ length hcr → 32 ≤ length fields → 32 ≤ length out
    → get_or fields 25 0 ≤ 1 → (command_in fields).op ≤ 0xfff
    → ((write_call hcr fields).answer ≡ 0)
    × (read_call (write_call hcr fields).bytes out ≡ left 0 (splice 0 (part 0 26 fields ++ replicate 6 0) out))
written_read hcr fields out bytes long room free flag low =
    (ap (λ (x : Left). x.answer) given, ap (λ (x : Left). read_call x.bytes out) given ∙ found)
  where
    given : write_call hcr fields ≡ left 0 (written_of (command_in fields) hcr)
    given =
        sym (write_made hcr fields long room flag (command_in fields) (Ok tt) 0 (written_of (command_in fields) hcr) refl refl
        (sym (write_read (command_in fields) hcr (written_fits fields bytes room) low long).0) refl)

    found : read_call (written_of (command_in fields) hcr) out ≡ left 0 (splice 0 (part 0 26 fields ++ replicate 6 0) out)
    found =
        sym (read_made (written_of (command_in fields) hcr) out free)
        ∙ ap (λ (x : Result HcrCommand ReadError). fields_left x out) (write_read (command_in fields) hcr (written_fits fields bytes room) low long).1
        ∙ ap (λ (ys : List ℕ). left 0 (splice 0 ys out)) (fields_again fields bytes room flag)
