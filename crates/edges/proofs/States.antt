-- Laws about the definitions of specs/States.antt.
use Rattle.std.specs.Prelude.{◌<◌}
use Rattle.std.proofs.Common.{lit<}
use Rattle.edges.specs.declared.State.{State}
use Rattle.edges.specs.declared.State.TheVariants.{Reset, Init, Rtr, Rts, Sqe, Sqd, Err}
use Rattle.edges.specs.States.{state_code}

-- A code is below 7, so it fits the four bits that a record has for it.
pub state_code_small : (s : State) → state_code s < 7
state_code_small Reset = lit< tt
state_code_small Init = lit< tt
state_code_small Rtr = lit< tt
state_code_small Rts = lit< tt
state_code_small Sqe = lit< tt
state_code_small Sqd = lit< tt
state_code_small Err = lit< tt
