-- The command register on lists of bytes (01, The command register; layout and numbers).
use Rattle.std.specs.Prelude.{Bool, true, false, List, [], ◌∷◌, ◌++◌, ℕ, ◌+◌, ◌*◌, ◌/◌, ◌%◌, ◌^◌, eqb, ltb, length, Result, Ok, Err}
use Rattle.words.specs.Choice.{pick, both}
use Rattle.words.specs.Parts.{splice}
use Rattle.words.specs.Words.{bits, le32, le_bytes}
use Rattle.hcr.specs.declared.HcrCommand.{HcrCommand}
use Rattle.hcr.specs.declared.ReadError.{ReadError}
use Rattle.hcr.specs.declared.WriteError.{WriteError}
use Rattle.hcr.specs.declared.ReadError.TheVariants as readError
use Rattle.hcr.specs.declared.WriteError.TheVariants as writeError

-- A flag as the bit that stands for it.
abbrev pub bit : Bool → ℕ
bit true = 1
bit false = 0

-- A parameter of 64 bits takes two words, the high one first (01, The command register).
unfoldable pub param_at : ℕ → List ℕ → ℕ
param_at at h = le32 at h * 2 ^ 32 + le32 (at + 4) h

-- The command's fields, each in its word, and in the words 14h and 18h in its bits (01, The command register). Event is 01's E.
unfoldable pub command_of : List ℕ → HcrCommand
command_of h =
    record {
      in_param = param_at 0x00 h;
      in_modifier = le32 0x08 h;
      out_param = param_at 0x0c h;
      token = bits 31 16 (le32 0x14 h);
      event = eqb (bits 22 22 (le32 0x18 h)) 1;
      op_modifier = bits 19 12 (le32 0x18 h);
      op = bits 11 0 (le32 0x18 h);
    }

-- Well formed is a register whose go is 1 and whose status, unnamed bits of word 18h and bits below the token are 0
-- (01, The command register). First word 18h.
unfoldable pub well_formed18 : ℕ → Bool
well_formed18 w = both (eqb (bits 23 23 w) 1) (both (eqb (bits 31 24 w) 0) (eqb (bits 21 20 w) 0))

unfoldable pub well_formed : List ℕ → Bool
well_formed h = both (well_formed18 (le32 0x18 h)) (eqb (bits 15 0 (le32 0x14 h)) 0)

-- The checks of reading in their order, with what is given at each: fewer than 28 bytes, then not well formed
-- (01, Numbers returned, 0x83 and 3).
unfoldable pub read_rows : {A : Type 0} → List ℕ → A → A → A → A
read_rows h short malformed command = pick (ltb (length h) 28) short (pick (well_formed h) command malformed)

-- Reading gives E as it stands, set or not; that a set E is refused is a rule of submission (01, The command register).
unfoldable pub read_of : List ℕ → Result HcrCommand ReadError
read_of h = read_rows h (Err readError.Short) (Err readError.Malformed) (Ok (command_of h))

-- Word 14h of a command: the token in 31:16, 0 below it (01, The command register).
abbrev pub word14 : ℕ → ℕ
word14 t = t * 2 ^ 16

-- Word 18h of a command: go is 1, E, op_modifier and op stand in their bits, all else is 0 (01, The command register).
unfoldable pub word18 : Bool → ℕ → ℕ → ℕ
word18 e m o = 1 * 2 ^ 23 + bit e * 2 ^ 22 + m * 2 ^ 12 + o

-- The bytes of words that follow each other, each of four bytes, the lowest first.
unfoldable pub le_words : List ℕ → List ℕ
le_words [] = []
le_words (w ∷ ws) = le_bytes 4 w ++ le_words ws

-- The seven words of a command, 00h to 18h.
unfoldable pub words_of : HcrCommand → List ℕ
words_of c =
    c.in_param / 2 ^ 32
    ∷ c.in_param % 2 ^ 32
    ∷ c.in_modifier
    ∷ c.out_param / 2 ^ 32
    ∷ c.out_param % 2 ^ 32
    ∷ word14 c.token
    ∷ word18 c.event c.op_modifier c.op
    ∷ []

-- Their 28 bytes.
unfoldable pub register_of : HcrCommand → List ℕ
register_of c = le_words (words_of c)

-- The checks of writing in their order: fewer than 28 bytes, then an op that 12 bits do not hold (01, Numbers returned, 0x83 and 3).
unfoldable pub write_rows : {A : Type 0} → HcrCommand → List ℕ → A → A → A → A
write_rows c h short bad-op done = pick (ltb (length h) 28) short (pick (ltb 0xfff c.op) bad-op done)

unfoldable pub write_of : HcrCommand → List ℕ → Result (Unit {0}) WriteError
write_of c h = write_rows c h (Err writeError.Short) (Err writeError.BadOp) (Ok tt)

-- What the lent bytes hold after an answer: the command in the first 28, or after a refusal what they held (01, Numbers returned).
unfoldable pub bytes_after : Result (Unit {0}) WriteError → HcrCommand → List ℕ → List ℕ
bytes_after (Ok tt) c h = splice 0 (register_of c) h
bytes_after (Err writeError.Short) c h = h
bytes_after (Err writeError.BadOp) c h = h

unfoldable pub written_of : HcrCommand → List ℕ → List ℕ
written_of c h = bytes_after (write_of c h) c h

-- 01's number for each answer (01, Numbers returned).
abbrev pub read_answer_number : Result HcrCommand ReadError → ℕ
read_answer_number (Ok c) = 0
read_answer_number (Err readError.Short) = 0x83
read_answer_number (Err readError.Malformed) = 3

abbrev pub write_answer_number : Result (Unit {0}) WriteError → ℕ
write_answer_number (Ok tt) = 0
write_answer_number (Err writeError.Short) = 0x83
write_answer_number (Err writeError.BadOp) = 3
