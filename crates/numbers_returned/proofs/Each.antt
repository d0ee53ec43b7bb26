-- The number that `number` gives is the one that 01 gives for a submission, a step, a collection and a reset (01, Numbers returned).
use Rattle.std.specs.Prelude.{◌≡◌, refl, ℕ, Result, Ok, Err}
use Rattle.rules.specs.declared.Refusal.{Refusal}
use Rattle.rules.specs.declared.Submission.{Submission}
use Rattle.rules.specs.declared.Submission.TheVariants as submit
use Rattle.rules.specs.Numbers.{number_of, submit_number, step_number, collect_number, reset_number}

pub of_submit : (a : Result Submission Refusal) → number_of a ≡ submit_number a
of_submit (Ok submit.Done) = refl
of_submit (Ok (submit.Accepted k)) = refl
of_submit (Err c) = refl

pub of_step : (a : Result ℕ Refusal) → number_of a ≡ step_number a
of_step (Ok n) = refl
of_step (Err c) = refl

pub of_collect : (a : Result ℕ Refusal) → number_of a ≡ collect_number a
of_collect (Ok n) = refl
of_collect (Err c) = refl

pub of_reset : (a : Result (Unit {0}) Refusal) → number_of a ≡ reset_number a
of_reset (Ok tt) = refl
of_reset (Err c) = refl
