-- The command register's fields in 32 bytes that a caller in C lends, every number little-endian:
--   0 to 7 in_param   8 to 15 out_param   16 to 19 in_modifier   20 to 21 token   22 to 23 op   24 op_modifier   25 event (0 or 1)
--   26 to 31 0
-- And the two calls on them: the number answered, and the bytes that are left.
use Rattle.std.specs.Prelude.{List, ◌∷◌, ◌++◌, ℕ, eqb, ltb, length, get_or, replicate}
use Rattle.words.specs.Choice.{pick, either}
use Rattle.words.specs.Parts.{part, splice}
use Rattle.words.specs.Words.{le_value, le_bytes, le32}
use Rattle.hcr.specs.declared.HcrCommand.{HcrCommand}
use Rattle.hcr.specs.Register.{bit, command_of, well_formed, register_of}

-- ---- the fields

unfoldable pub fields_of : HcrCommand → List ℕ
fields_of c =
    le_bytes 8 c.in_param
    ++ (le_bytes 8 c.out_param
    ++ (le_bytes 4 c.in_modifier
    ++ (le_bytes 2 c.token
    ++ (le_bytes 2 c.op
    ++ (c.op_modifier ∷ bit c.event ∷ replicate 6 0)))))

-- the number of n bytes from at
unfoldable pub number_at : ℕ → ℕ → List ℕ → ℕ
number_at at n b = le_value (part at n b)

unfoldable pub command_in : List ℕ → HcrCommand
command_in b =
    record {
      in_param = number_at 0 8 b;
      in_modifier = le32 16 b;
      out_param = number_at 8 8 b;
      token = number_at 20 2 b;
      event = eqb (get_or b 25 0) 1;
      op_modifier = get_or b 24 0;
      op = number_at 22 2 b;
    }

-- ---- the calls

-- the number that a call answers, and what the bytes hold that it was lent to write
pub record Left : Type 0 where
  pub answer : ℕ
  pub bytes : List ℕ

abbrev pub left : ℕ → List ℕ → Left
left n b = record { answer = n; bytes = b }

-- The lengths, then whether the register is well formed (01, Numbers returned, 0x83 and 3).
unfoldable pub read_call : List ℕ → List ℕ → Left
read_call hcr fields =
    pick (either (ltb (length hcr) 28) (ltb (length fields) 32)) (left 0x83 fields)
    (pick (well_formed hcr) (left 0 (splice 0 (fields_of (command_of hcr)) fields))
    (left 3 fields))

-- The lengths, then an event byte that is no flag or an op that 12 bits do not hold (01, Numbers returned, 0x83 and 3).
unfoldable pub write_call : List ℕ → List ℕ → Left
write_call hcr fields =
    pick (either (ltb (length hcr) 28) (ltb (length fields) 32)) (left 0x83 hcr)
    (pick (either (ltb 1 (get_or fields 25 0)) (ltb 0xfff (command_in fields).op)) (left 3 hcr)
    (left 0 (splice 0 (register_of (command_in fields)) hcr)))
