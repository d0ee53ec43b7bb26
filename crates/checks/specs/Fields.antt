-- The fields of a record that a decision is made by.
use Rattle.std.specs.Prelude.{Bool, List, ℕ, ◌/◌, eqb, get_or}
use Rattle.words.specs.Words.{bits, be32}

-- The state code in bits 31:28 of word 00h and the service type in bits 23:16: words are big-endian, so these are the top half of byte 0
-- and the whole of byte 1 (01, The context store).
unfoldable pub state_of : List ℕ → ℕ
state_of r = get_or r 0 0 / 16

unfoldable pub service_of : List ℕ → ℕ
service_of r = get_or r 1 0

-- The hardware owns the record while byte 63 is 1, and software with any other value (01, The context store).
unfoldable pub is_hardware : List ℕ → Bool
is_hardware r = eqb (get_or r 63 0) 1

-- The completion queue of a queue pair's sends is named in word 70h, and a completion queue's event queue in word 10h: a name is the whole
-- word (02, wish 2).
unfoldable pub cq_named : List ℕ → ℕ
cq_named r = be32 0x70 r

unfoldable pub eq_named : List ℕ → ℕ
eq_named r = be32 0x10 r
