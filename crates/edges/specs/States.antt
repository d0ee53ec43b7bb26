-- The states and service types of a queue pair, as codes in word 00h of its record (01, The context store).
use Rattle.std.specs.Prelude.{Bool, ℕ, eqb, leb}
use Rattle.words.specs.Choice.{either}
use Rattle.edges.specs.declared.State.{State}
use Rattle.edges.specs.declared.State.TheVariants.{Reset, Init, Rtr, Rts, Sqe, Sqd, Err}

-- The code of each state (01, The context store).
abbrev pub state_code : State → ℕ
state_code Reset = 0
state_code Init = 1
state_code Rtr = 2
state_code Rts = 3
state_code Sqe = 4
state_code Sqd = 5
state_code Err = 6

-- Codes above 6 are no state's: a record may hold one, and no edge starts there (01, The context store).
abbrev pub is_state : ℕ → Bool
is_state code = leb code 6

-- The service types: reliable connection, unreliable connection, unreliable datagram (01, The context store).
abbrev pub rc : ℕ
rc = 0

abbrev pub uc : ℕ
uc = 1

abbrev pub ud : ℕ
ud = 3

-- The types that RESET to INIT accepts (01, Commands).
unfoldable pub is_service : ℕ → Bool
is_service t = either (eqb t rc) (either (eqb t uc) (eqb t ud))
