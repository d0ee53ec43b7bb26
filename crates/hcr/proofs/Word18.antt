-- The words 18h and 14h that are written, field by field (01, The command register). Each law is of any word that is the one written,
-- so of the definition's, of the one that the code joins, and of the one that stands in the bytes.
use Rattle.std.specs.Prelude.{◌≡◌, Bool, true, ℕ, ◌^◌, ◌≤◌, ◌<◌}
use Rattle.std.proofs.Common.{arith, eq-eqb}
use Rattle.words.proofs.Choice.{both_yes}
use Rattle.words.specs.Words.{bits}
use Rattle.hcr.specs.Register.{bit, well_formed18, word14, word18}
use Rattle.hcr.proofs.Fields.{bit_small}

module _ (e : Bool) (m o w : ℕ) (hm : m < 2 ^ 8) (ho : o ≤ 0xfff) (is : w ≡ word18 e m o) where
  small : bit e < 2
  small = bit_small e

  pub status_written : bits 31 24 w ≡ 0
  unfolding bits word18
  status_written = omega (arith, small, is)

  pub go_written : bits 23 23 w ≡ 1
  unfolding bits word18
  go_written = omega (arith, small, is)

  pub event_written : bits 22 22 w ≡ bit e
  unfolding bits word18
  event_written = omega (arith, small, is)

  pub reserved_written : bits 21 20 w ≡ 0
  unfolding bits word18
  reserved_written = omega (arith, small, is)

  pub op_modifier_written : bits 19 12 w ≡ m
  unfolding bits word18
  op_modifier_written = omega (arith, small, is)

  pub op_written : bits 11 0 w ≡ o
  unfolding bits word18
  op_written = omega (arith, small, is)

  -- so it is well formed, and a word
  pub formed_written : well_formed18 w ≡ true
  unfolding well_formed18
  formed_written =
      both_yes _ _ (eq-eqb _ _ go_written) (both_yes _ _ (eq-eqb _ _ status_written) (eq-eqb _ _ reserved_written))

  pub word_written : w < 2 ^ 32
  unfolding word18
  word_written = omega (arith, small, is)

-- The token of word 14h, and nothing below it.
module _ (t w : ℕ) (is : w ≡ word14 t) where
  pub token_written : t < 2 ^ 16 → bits 31 16 w ≡ t
  unfolding bits
  token_written h = omega (arith, is)

  pub below_token_written : bits 15 0 w ≡ 0
  unfolding bits
  below_token_written = omega (arith, is)
