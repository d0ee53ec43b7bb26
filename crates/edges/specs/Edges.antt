-- Which moves are permitted, from which state code and for which service type.
use Rattle.std.specs.Prelude.{Bool, false, not, ℕ, eqb, Result, Ok, Err}
use Rattle.words.specs.Choice.{pick, both, either}
use Rattle.edges.specs.States.{state_code, is_state, rc, uc, ud}
use Rattle.edges.specs.declared.State.{State}
use Rattle.edges.specs.declared.State.TheVariants.{Reset, Init, Rtr, Rts, Sqe, Sqd, Err}
use Rattle.edges.specs.declared.Edge.{Edge}
use Rattle.edges.specs.declared.Edge.TheVariants.{ResetToInit, InitToInit, InitToRtr, RtrToRts, RtsToRts, SqeToRts}
use Rattle.edges.specs.declared.Edge.TheVariants.{RtsToSqd, SqdToSqd, SqdToRts, ToErr, ToReset}
use Rattle.edges.specs.declared.Move.{Move}
use Rattle.edges.specs.declared.Move.TheVariants.{Command, Engine}
use Rattle.edges.specs.declared.EdgeDenial.{EdgeDenial}
use Rattle.edges.specs.declared.EdgeDenial.TheVariants as edgeDenial

-- The code is that of the state.
abbrev pub is : State → ℕ → Bool
is s code = eqb code (state_code s)

-- From where each edge starts; the last two start at every state but the one that they lead to (01, Commands, the table of edges), and that
-- to ERR not at RESET either, which software leaves for INIT alone (02, wish 1).
abbrev pub from_of : Edge → ℕ → Bool
from_of ResetToInit code = is Reset code
from_of InitToInit code = is Init code
from_of InitToRtr code = is Init code
from_of RtrToRts code = is Rtr code
from_of RtsToRts code = is Rts code
from_of SqeToRts code = is Sqe code
from_of RtsToSqd code = is Rts code
from_of SqdToSqd code = is Sqd code
from_of SqdToRts code = is Sqd code
from_of ToErr code = both (not (is Reset code)) (not (is Err code))
from_of ToReset code = not (is Reset code)

-- Where each edge leads (01, Commands, the table of edges).
abbrev pub to_of : Edge → State
to_of ResetToInit = Init
to_of InitToInit = Init
to_of InitToRtr = Rtr
to_of RtrToRts = Rts
to_of RtsToRts = Rts
to_of SqeToRts = Rts
to_of RtsToSqd = Sqd
to_of SqdToSqd = Sqd
to_of SqdToRts = Rts
to_of ToErr = Err
to_of ToReset = Reset

-- A command's edge is permitted where it starts, and from no code that is no state's (01, The context store).
unfoldable pub permits_edge : Edge → ℕ → Bool
permits_edge edge code = both (is_state code) (from_of edge code)

-- The four states that an engine write may keep, or leave for ERR (01, Engine requests).
unfoldable pub is_active : ℕ → Bool
is_active code = either (is Rtr code) (either (is Rts code) (either (is Sqd code) (is Sqe code)))

-- An engine write keeps one of the four (01, Engine requests).
unfoldable pub write_keeps : State → ℕ → Bool
write_keeps to code = both (is_active code) (is to code)

-- An engine write goes from one of the four to ERR (01, Engine requests).
unfoldable pub write_fails : State → ℕ → Bool
write_fails to code = both (is_active code) (is Err (state_code to))

-- The two states that an engine write may leave for SQE (01, Engine requests).
unfoldable pub is_sending : ℕ → Bool
is_sending code = either (is Rts code) (is Sqd code)

-- An engine write goes from one of the two to SQE, for every type but RC (01, Engine requests).
unfoldable pub write_stops : State → ℕ → ℕ → Bool
write_stops to code service = both (is_sending code) (both (is Sqe (state_code to)) (not (eqb service rc)))

-- An engine write is permitted in these three ways only (01, Engine requests).
unfoldable pub permits_write : State → ℕ → ℕ → Bool
permits_write to code service = either (write_keeps to code) (either (write_fails to code) (write_stops to code service))

-- Whether a move is permitted, from the record's state code and its service type.
abbrev pub permits : Move → ℕ → ℕ → Bool
permits (Command edge) code service = permits_edge edge code
permits (Engine to) code service = permits_write to code service

-- An engine write from this code to this state is permitted for some service type, RC, UC or UD.
unfoldable pub permits_some : State → ℕ → Bool
permits_some to code = either (permits_write to code rc) (either (permits_write to code uc) (permits_write to code ud))

-- The move is an engine write, permitted for some service type; a command is never refused for the type (02, wish 5).
abbrev pub for_some_type : Move → ℕ → Bool
for_some_type (Command edge) code = false
for_some_type (Engine to) code = permits_some to code

-- The decision, as a verdict. An engine write that is not permitted for the record's type, but for another, is refused for the type, and
-- every other move that is not permitted for its edge (02, wish 5).
unfoldable pub judge_of : Move → ℕ → ℕ → Result (Unit {0}) EdgeDenial
judge_of asked code service = pick (permits asked code service) (Ok tt) (pick (for_some_type asked code) (Err edgeDenial.NotForType) (Err edgeDenial.NotPermitted))

-- The number of each verdict (01, Numbers returned, 0x85; 02, wish 5).
abbrev pub edge_verdict_number : Result (Unit {0}) EdgeDenial → ℕ
edge_verdict_number (Ok tt) = 0
edge_verdict_number (Err edgeDenial.NotPermitted) = 0x85
edge_verdict_number (Err edgeDenial.NotForType) = 0x88
