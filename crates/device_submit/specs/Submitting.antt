-- A submission is its decision applied; every decision promises what applying it asks.
use Rattle.std.specs.Prelude.{◌≡◌, List, [], ℕ, length, Result}
use Rattle.std.proofs.Common.{sym, ◌∙◌, subst}
use Rattle.std.proofs.Math.Path.{ap}
use Rattle.slots.specs.declared.Slot.{Slot}
use Rattle.possible.specs.declared.Hca.{Hca}
use Rattle.rules.specs.World.{world}
use Rattle.rules.specs.Admission.{Submitted, applied}
use Rattle.rules.specs.Commands.{decide_command, submit_command}
use Rattle.rules.specs.Engines.{decide_engine, submit_engine}
use Rattle.rules.specs.declared.Decision.{Decision}
use Rattle.rules.specs.declared.Refusal.{Refusal}
use Rattle.applying.specs.Applies.{Applies, command_applies, engine_applies}

module _ (h : Hca) (row : List Slot) (store room : List ℕ) (number index psn state : ℕ) (d : Result Decision Refusal)
    (decided : d ≡ decide_engine (world h row store room) number index psn state) where
  pub engine_promises : Applies (length store) (length room) 0 d
  engine_promises =
      subst (Applies (length store) (length room) 0) (sym decided) (engine_applies (world h row store room) number index psn state)

  pub engine_submitted : (x : Submitted) → x ≡ applied (world h row store room) [] d
      → x ≡ submit_engine (world h row store room) number index psn state
  unfolding submit_engine
  engine_submitted x e = e ∙ ap (applied (world h row store room) []) decided

module _ (h : Hca) (row : List Slot) (store room bytes mail : List ℕ) (d : Result Decision Refusal)
    (decided : d ≡ decide_command (world h row store room) bytes mail) where
  pub command_promises : Applies (length store) (length room) (length mail) d
  command_promises =
      subst (Applies (length store) (length room) (length mail)) (sym decided) (command_applies (world h row store room) bytes mail)

  pub command_submitted : (x : Submitted) → x ≡ applied (world h row store room) mail d
      → x ≡ submit_command (world h row store room) bytes mail
  unfolding submit_command
  command_submitted x e = e ∙ ap (applied (world h row store room) mail) decided
