-- Which words of the image each edge takes.
use Rattle.std.specs.Prelude.{Bool, true, false, ℕ, ◌*◌, ◌/◌, eqb}
use Rattle.words.specs.Choice.{either, within}
use Rattle.edges.specs.declared.Edge.{Edge}
use Rattle.edges.specs.declared.Edge.TheVariants.{ResetToInit, InitToInit, InitToRtr, RtrToRts, RtsToRts, SqeToRts}
use Rattle.edges.specs.declared.Edge.TheVariants.{RtsToSqd, SqdToSqd, SqdToRts, ToErr, ToReset}

-- The words of the image that each edge takes, each by its offset; both ends of a range are taken (01, Commands, the table of edges).
abbrev pub takes_word : Edge → ℕ → Bool
takes_word ResetToInit w = within 0x00 0xa0 w
takes_word InitToInit w = within 0x04 0x4c w
takes_word InitToRtr w = either (within 0x04 0x4c w) (eqb w 0x84)
takes_word RtrToRts w = either (within 0x20 0x28 w) (either (eqb w 0x6c) (eqb w 0x7c))
takes_word RtsToRts w = within 0x20 0x28 w
takes_word SqeToRts w = eqb w 0x98
takes_word RtsToSqd w = false
takes_word SqdToSqd w = either (within 0x20 0x4c w) (eqb w 0x98)
takes_word SqdToRts w = either (within 0x20 0x4c w) (eqb w 0x98)
takes_word ToErr w = false
takes_word ToReset w = false

-- The offset of the word that holds byte i.
abbrev pub word_of : ℕ → ℕ
word_of i = i / 4 * 4

-- The edge to RESET leaves a record that is all zero (01, Commands, the table of edges).
abbrev pub zeroes : Edge → Bool
zeroes ResetToInit = false
zeroes InitToInit = false
zeroes InitToRtr = false
zeroes RtrToRts = false
zeroes RtsToRts = false
zeroes SqeToRts = false
zeroes RtsToSqd = false
zeroes SqdToSqd = false
zeroes SqdToRts = false
zeroes ToErr = false
zeroes ToReset = true
