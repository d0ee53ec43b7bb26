-- Numbers as bytes, in either order, and the bits of a word.
use Rattle.std.specs.Prelude.{List, [], ◌∷◌, ℕ, zero, suc, ◌+◌, ◌-◌, ◌*◌, ◌/◌, ◌%◌, ◌^◌, ◌<◌, length, get_or}
use Rattle.words.specs.Parts.{part}

-- Bits hi to lo of a word, counted from 0 at its low end: what 01 writes as hi:lo.
unfoldable pub bits : ℕ → ℕ → ℕ → ℕ
bits hi lo w = w / 2 ^ lo % 2 ^ (hi - lo + 1)

-- Every element is a byte.
abbrev pub AreBytes : List ℕ → Type 0
AreBytes l = (i : ℕ) → get_or l i 0 < 256

-- The number that a list of bytes is, lowest byte first; highest byte first.
unfoldable pub le_value : List ℕ → ℕ
le_value [] = 0
le_value (b ∷ bs) = b + 256 * le_value bs

unfoldable pub be_value : List ℕ → ℕ
be_value [] = 0
be_value (b ∷ bs) = b * 256 ^ length bs + be_value bs

-- The lowest n bytes of a number, lowest first; highest first.
unfoldable pub le_bytes : ℕ → ℕ → List ℕ
le_bytes zero v = []
le_bytes (suc n) v = v % 256 ∷ le_bytes n (v / 256)

unfoldable pub be_bytes : ℕ → ℕ → List ℕ
be_bytes zero v = []
be_bytes (suc n) v = v / 256 ^ n % 256 ∷ be_bytes n v

-- The 32-bit word at an offset of a list of bytes: little-endian in the command register, big-endian in store and mailboxes
-- (01, The command register; The context store).
unfoldable pub le32 : ℕ → List ℕ → ℕ
le32 at l = le_value (part at 4 l)

unfoldable pub be32 : ℕ → List ℕ → ℕ
be32 at l = be_value (part at 4 l)
