-- Laws about the definitions of specs/Lines.antt.
use Rattle.std.specs.Prelude.{◌≡◌, refl, false, ℕ, ◌<◌, eqb}
use Rattle.std.proofs.Common.{sym, arith}
use Rattle.edges.specs.States.{rc, uc}
use Rattle.edges.proofs.Every.{none_permitted, all_agree}
use Rattle.edges.specs.declared.State.TheVariants.{Reset, Init, Rtr, Rts, Sqe, Sqd, Err}
use Rattle.edges.specs.declared.Move.{Move}
use Rattle.edges.specs.declared.Move.TheVariants.{Command, Engine}
use Rattle.edges.specs.Lines.{Leads, LineRight, has}

has_as_uc : (set : ℕ) (asked : Move) (service : ℕ) → eqb service rc ≡ false → has set asked service ≡ has set asked uc
has_as_uc set (Command edge) service e = refl
has_as_uc set (Engine Reset) service e = refl
has_as_uc set (Engine Init) service e = refl
has_as_uc set (Engine Rtr) service e = refl
has_as_uc set (Engine Rts) service e = refl
has_as_uc set (Engine Sqe) service e = rw e
has_as_uc set (Engine Sqd) service e = refl
has_as_uc set (Engine Err) service e = refl

-- a line that passes the test is right
pub line : (code set k : ℕ) → code ≡ k → LineRight k set → Leads code set
line code set k e t = record { exactly = λ asked service. rw e (all_agree (has set) k (has_as_uc set) t.0 t.1 asked service) }

-- a code that is none of the seven is above 6
past_three : (code : ℕ) → ¬ (code ≡ 0) → ¬ (code ≡ 1) → ¬ (code ≡ 2) → ¬ (code ≡ 3) → 3 < code
past_three code a b c d = omega arith

past_six : (code : ℕ) → 3 < code → ¬ (code ≡ 4) → ¬ (code ≡ 5) → ¬ (code ≡ 6) → 6 < code
past_six code h a b c = omega arith

-- so the empty set is right for it
pub last_line : (code : ℕ) → ¬ (code ≡ 0) → ¬ (code ≡ 1) → ¬ (code ≡ 2) → ¬ (code ≡ 3) → ¬ (code ≡ 4) → ¬ (code ≡ 5) → ¬ (code ≡ 6)
    → Leads code 0
last_line code a b c d e f g =
    record { exactly = λ asked service. sym (none_permitted code (past_six code (past_three code a b c d) e f g) asked service) }
