-- Reset.
use Rattle.std.specs.Prelude.{Result, Ok, Err}
use Rattle.words.specs.Choice.{pick}
use Rattle.rows.specs.Rows.{empty_row}
use Rattle.rules.specs.declared.Refusal.TheVariants as cause
use Rattle.rules.specs.World.{World, with_hca, with_row, shut, bad_row}
use Rattle.rules.specs.declared.Refusal.{Refusal}

pub record Reset : Type 0 where
  pub answer : Result (Unit {0}) Refusal
  pub world : World

abbrev pub resetted : Result (Unit {0}) Refusal → World → Reset
resetted a w = record { answer = a; world = w }

-- all slots are empty and the adapter is closed; store and room stay
abbrev pub world_reset : World → World
world_reset w = with_row (with_hca w (shut w.hca)) empty_row

-- Only row and room are tested; past that it answers 0 for any state (01, Bursts, slots and holds).
unfoldable pub reset_of : World → Reset
reset_of w = pick (bad_row w) (resetted (Err cause.BadLength) w) (resetted (Ok tt) (world_reset w))
