-- Laws about the definitions of specs/Fields.antt.
use Rattle.std.specs.Prelude.{◌≡◌, List, ℕ, ◌≤◌, length}
use Rattle.std.proofs.Common.{arith}
use Rattle.words.specs.Words.{bits, AreBytes, be32}
use Rattle.words.proofs.Leaves.{le_four, be32_is}
use Rattle.checks.specs.Fields.{service_of, state_of}

-- Of bytes, they are the bits of word 00h that 01 names.
pub state_bits : (r : List ℕ) → AreBytes r → 4 ≤ length r → bits 31 28 (be32 0 r) ≡ state_of r
unfolding bits state_of
state_bits r a h = rw (← be32_is 0 r h, le_four) (omega (arith, a 0, a 1, a 2, a 3))

pub service_bits : (r : List ℕ) → AreBytes r → 4 ≤ length r → bits 23 16 (be32 0 r) ≡ service_of r
unfolding bits service_of
service_bits r a h = rw (← be32_is 0 r h, le_four) (omega (arith, a 0, a 1, a 2, a 3))
