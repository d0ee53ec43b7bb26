-- How the code writes the decision down: what leads out of a state is a set of moves, one line for each state (02, wish 3). No rule stands
-- here: a line is right if its set has exactly the moves that `permits` has.
use Rattle.std.specs.Prelude.{◌≡◌, Bool, true, not, ℕ, eqb}
use Rattle.std.specs.Int.Bits.{bit_and}
use Rattle.words.specs.Choice.{pick}
use Rattle.edges.specs.States.{rc, uc}
use Rattle.edges.specs.Edges.{permits}
use Rattle.edges.specs.Every.{agrees}
use Rattle.edges.specs.declared.State.{State}
use Rattle.edges.specs.declared.State.TheVariants.{Reset, Init, Rtr, Rts, Sqe, Sqd, Err}
use Rattle.edges.specs.declared.Edge.{Edge}
use Rattle.edges.specs.declared.Edge.TheVariants.{ResetToInit, InitToInit, InitToRtr, RtrToRts, RtsToRts, SqeToRts}
use Rattle.edges.specs.declared.Edge.TheVariants.{RtsToSqd, SqdToSqd, SqdToRts, ToErr, ToReset}
use Rattle.edges.specs.declared.Move.{Move}
use Rattle.edges.specs.declared.Move.TheVariants.{Command, Engine}

-- The bit of each edge.
abbrev pub edge_bit : Edge → ℕ
edge_bit ResetToInit = 0x1
edge_bit InitToInit = 0x2
edge_bit InitToRtr = 0x4
edge_bit RtrToRts = 0x8
edge_bit RtsToRts = 0x10
edge_bit SqeToRts = 0x20
edge_bit RtsToSqd = 0x40
edge_bit SqdToSqd = 0x80
edge_bit SqdToRts = 0x100
edge_bit ToErr = 0x200
edge_bit ToReset = 0x400

-- The bits of a write that leaves SQE: one for every type, and for a type that is not RC a second one too.
abbrev pub sqe_bits : ℕ → ℕ
sqe_bits service = pick (eqb service rc) 0x4000 0xc000

-- The bits of a write that leaves the state; RESET and INIT, which no write may leave, have none.
abbrev pub write_bits : State → ℕ → ℕ
write_bits Reset service = 0
write_bits Init service = 0
write_bits Rtr service = 0x1000
write_bits Rts service = 0x2000
write_bits Sqe service = sqe_bits service
write_bits Sqd service = 0x10000
write_bits Err service = 0x20000

abbrev pub bits_of : Move → ℕ → ℕ
bits_of (Command edge) service = edge_bit edge
bits_of (Engine to) service = write_bits to service

-- The set has the move, for the type: it has one of its bits.
abbrev pub has : ℕ → Move → ℕ → Bool
has set asked service = not (eqb (bit_and set (bits_of asked service)) 0)

-- The set is what leads out of the code: it has a move, for a type, exactly if the move is permitted.
pub record Leads (code set : ℕ) : Type 0 where
  pub exactly : (asked : Move) (service : ℕ) → has set asked service ≡ permits asked code service

-- ---- a line's test: of every move, for RC and for UC
abbrev pub LineRight : ℕ → ℕ → Type 0
LineRight code set = (agrees (has set) code rc ≡ true) × (agrees (has set) code uc ≡ true)
