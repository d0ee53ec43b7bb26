-- The cause of a call's refusal, if it was refused.
use Rattle.std.specs.Prelude.{Option, Some, None, Result, Ok, Err, ℕ}
use Rattle.rules.specs.declared.Refusal.{Refusal}
use Rattle.rules.specs.declared.Submission.{Submission}
use Rattle.rules.specs.declared.Submission.TheVariants as submit

abbrev pub cause_of : {A : Type 0} → Result A Refusal → Option Refusal
cause_of (Ok a) = None
cause_of (Err c) = Some c

-- The same of each call's answer.
abbrev pub submit_cause : Result Submission Refusal → Option Refusal
submit_cause (Ok submit.Done) = None
submit_cause (Ok (submit.Accepted k)) = None
submit_cause (Err c) = Some c

abbrev pub step_cause : Result ℕ Refusal → Option Refusal
step_cause (Ok n) = None
step_cause (Err c) = Some c

abbrev pub collect_cause : Result ℕ Refusal → Option Refusal
collect_cause (Ok n) = None
collect_cause (Err c) = Some c

abbrev pub reset_cause : Result (Unit {0}) Refusal → Option Refusal
reset_cause (Ok tt) = None
reset_cause (Err c) = Some c
