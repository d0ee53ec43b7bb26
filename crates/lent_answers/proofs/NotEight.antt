-- A ROW THAT HAS NOT EIGHT SLOTS: every operation answers BadLength, and nothing changes (01, Numbers returned, the first 0x83).
-- One law for each operation; the premise is what the test `row.len() != 8` says where it holds.
use Rattle.std.specs.Prelude.{◌≡◌, not, List, ℕ, T, eqb, length, Err}
use Rattle.slots.specs.declared.Slot.{Slot}
use Rattle.possible.specs.declared.Hca.{Hca}
use Rattle.rules.specs.World.{World, world}
use Rattle.rules.specs.declared.Refusal.TheVariants as cause
use Rattle.rules.specs.Steps.{stepped, step_of}
use Rattle.rules.specs.Collections.{collected, collect_of}
use Rattle.rules.specs.Admission.{submitted}
use Rattle.rules.specs.Engines.{decide_engine, submit_engine}
use Rattle.rules.specs.Commands.{decide_command, submit_command}
use Rattle.rules.specs.Resets.{resetted, reset_of}
use Rattle.lent_answers.proofs.Tested.{bad_row_lem, bad_lent_lem}

module _ (h : Hca) (row : List Slot) (store room : List ℕ) (bad : T (not (eqb (length row) 8))) where
  abbrev w : World
  w = world h row store room

  pub step_not_eight : (k : ℕ) → stepped (Err cause.BadLength) w ≡ step_of w k
  unfolding step_of
  step_not_eight k = rw (bad_lent_lem h row store room bad)

  pub collect_not_eight : (k : ℕ) (out : List ℕ) → collected (Err cause.BadLength) w out ≡ collect_of w k out
  unfolding collect_of
  collect_not_eight k out = rw (bad_lent_lem h row store room bad)

  pub engine_not_eight : (number index psn state : ℕ) → submitted (Err cause.BadLength) w ≡ submit_engine w number index psn
      state
  unfolding submit_engine decide_engine
  engine_not_eight number index psn state = rw (bad_lent_lem h row store room bad)

  pub command_not_eight : (bytes mail : List ℕ) → submitted (Err cause.BadLength) w ≡ submit_command w bytes mail
  unfolding submit_command decide_command
  command_not_eight bytes mail = rw (bad_lent_lem h row store room bad)

  pub reset_not_eight : resetted (Err cause.BadLength) w ≡ reset_of w
  unfolding reset_of
  reset_not_eight = rw (bad_row_lem h row store room bad)
