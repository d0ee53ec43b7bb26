-- The cause that `of_answer` gives is that of a submission, a step, a collection and a reset.
use Rattle.std.specs.Prelude.{◌≡◌, refl, ℕ, Result, Ok, Err}
use Rattle.rules.specs.declared.Refusal.{Refusal}
use Rattle.rules.specs.declared.Submission.{Submission}
use Rattle.rules.specs.declared.Submission.TheVariants as submit
use Rattle.call_causes.specs.Causes.{cause_of, submit_cause, step_cause, collect_cause, reset_cause}

pub of_submit : (a : Result Submission Refusal) → cause_of a ≡ submit_cause a
of_submit (Ok submit.Done) = refl
of_submit (Ok (submit.Accepted k)) = refl
of_submit (Err c) = refl

pub of_step : (a : Result ℕ Refusal) → cause_of a ≡ step_cause a
of_step (Ok n) = refl
of_step (Err c) = refl

pub of_collect : (a : Result ℕ Refusal) → cause_of a ≡ collect_cause a
of_collect (Ok n) = refl
of_collect (Err c) = refl

pub of_reset : (a : Result (Unit {0}) Refusal) → cause_of a ≡ reset_cause a
of_reset (Ok tt) = refl
of_reset (Err c) = refl
