-- What is refused for its service type (02, wish 5): by the edges of today exactly an engine write from RTS or SQD to SQE, of RC.
use Rattle.std.specs.Prelude.{Bool, false, ℕ, eqb}
use Rattle.words.specs.Choice.{both, either}
use Rattle.edges.specs.States.{state_code, rc, uc}
use Rattle.edges.specs.Edges.{is}
use Rattle.edges.specs.Edges.{judge_of, edge_verdict_number}
use Rattle.edges.specs.Every.{alike}
use Rattle.edges.specs.declared.State.TheVariants.{Rts, Sqe, Sqd}
use Rattle.edges.specs.declared.Move.{Move}
use Rattle.edges.specs.declared.Move.TheVariants.{Command, Engine}

-- The move is an engine write that leaves SQE.
abbrev pub to_sqe : Move → Bool
to_sqe (Command edge) = false
to_sqe (Engine to) = is Sqe (state_code to)

-- It would leave RTS or SQD for SQE, and the type is RC.
abbrev pub stops_rc : ℕ → Move → ℕ → Bool
stops_rc code asked service = both (either (is Rts code) (is Sqd code)) (both (to_sqe asked) (eqb service rc))

-- The move gets 0x88.
abbrev pub gets88 : ℕ → Move → ℕ → Bool
gets88 code asked service = eqb (edge_verdict_number (judge_of asked code service)) 0x88

abbrev pub code_right : ℕ → Bool
code_right code = both (alike (gets88 code) (stops_rc code) rc) (alike (gets88 code) (stops_rc code) uc)
