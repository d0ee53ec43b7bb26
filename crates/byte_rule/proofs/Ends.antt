-- The ends of what is taken: the last byte of word A0h, and the last of the eight mailbox bytes of RESIZE_CQ.
use Rattle.std.specs.Prelude.{◌≡◌, refl, List, ℕ, get_or}
use Rattle.edges.specs.declared.Edge.TheVariants.{ResetToInit}
use Rattle.byte_rule.specs.Bytes.{taken_byte, resize_byte}

pub taken_last : (image : List ℕ) (old : ℕ) → taken_byte ResetToInit image 0xa3 old ≡ get_or image 0xa3 0
unfolding taken_byte
taken_last image old = refl

pub resize_last : (mail : List ℕ) (old : ℕ) → resize_byte mail 0x1b old ≡ get_or mail 7 0
unfolding resize_byte
resize_last mail old = refl
