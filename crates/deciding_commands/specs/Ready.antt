-- What the first tests of a command's decision come to.
use Rattle.std.specs.Prelude.{◌≡◌, Bool, List, ℕ, ◌≤◌, ◌<◌, ltb, length, Result, Err}
use Rattle.std.proofs.Math.Path.{refl, ap}
use Rattle.std.proofs.Common.{◌∙◌, lt-ltb, le-ltb}
use Rattle.std.proofs.Math.Bool.{true, false}
use Rattle.words.specs.Choice.{either}
use Rattle.words.proofs.Choice.{pick_yes, pick_no}
use Rattle.words.proofs.Tests.{neither}
use Rattle.hcr.specs.Register.{read_of}
use Rattle.hcr.specs.declared.HcrCommand.{HcrCommand}
use Rattle.hcr.specs.declared.ReadError.{ReadError}
use Rattle.rules.specs.declared.Refusal.TheVariants as cause
use Rattle.rules.specs.World.{World, bad_lent, bad_state}
use Rattle.rules.specs.Commands.{decide_register, decide_command}
use Rattle.rules.specs.declared.Decision.{Decision}
use Rattle.rules.specs.declared.Refusal.{Refusal}

-- ---- the first rows of the table: the lengths, with that of the HCR, then the state

module _ (w : World) (bytes mail : List ℕ) where
  pub lent_refused : bad_lent w ≡ true → Err cause.BadLength ≡ decide_command w bytes mail
  unfolding decide_command
  lent_refused l = rw l

  pub hcr_refused : length bytes < 28 → Err cause.BadLength ≡ decide_command w bytes mail
  unfolding decide_command
  hcr_refused h = pick_yes _ _ _ _ (ap (either (bad_lent w)) (lt-ltb (length bytes) 28 h) ∙ either_true (bad_lent w)) refl
    where
      either_true : (b : Bool) → either b true ≡ true
      either_true true = refl
      either_true false = refl

  module _ (l : bad_lent w ≡ false) (h : 28 ≤ length bytes) where
    enough : either (bad_lent w) (ltb (length bytes) 28) ≡ false
    enough = neither (bad_lent w) (ltb (length bytes) 28) l (le-ltb (length bytes) 28 h)

    pub state_refused : bad_state w ≡ true → Err cause.Impossible ≡ decide_command w bytes mail
    unfolding decide_command
    state_refused s = pick_no _ _ _ _ enough (pick_yes _ _ _ _ s refl)

    pub register_goes : (v : Result HcrCommand ReadError) (r : Result Decision Refusal) → bad_state w ≡ false → v ≡ read_of bytes → r ≡ decide_register w mail v
        → r ≡ decide_command w bytes mail
    unfolding decide_command
    register_goes v r s e f = pick_no _ _ _ _ enough (pick_no _ _ _ _ s (f ∙ ap (decide_register w mail) e))
