-- 01, Numbers returned: the number of each cause, and for each answer its number and the values that it has.
use Rattle.std.specs.Prelude.{Bool, true, false, List, [], ◌∷◌, ℕ, take, Result, Ok, Err}
use Rattle.checks.specs.Verdicts.{denial_number}
use Rattle.checks.specs.declared.Denial.{Denial}
use Rattle.checks.specs.declared.Denial.TheVariants as denial
use Rattle.rules.specs.declared.Refusal.{Refusal}
use Rattle.rules.specs.declared.Refusal.TheVariants as cause
use Rattle.rules.specs.declared.Submission.{Submission}
use Rattle.rules.specs.declared.Submission.TheVariants as submit

-- the causes in the order of the table, top to bottom; two may share a number
abbrev pub refusal_number : Refusal → ℕ
refusal_number cause.BadLength = 0x83
refusal_number cause.Impossible = 0x87
refusal_number cause.NoRequest = 0x84
refusal_number cause.StillRunning = 0x86
refusal_number cause.ShortBuffer = 0x83
refusal_number cause.Malformed = 3
refusal_number cause.NotServed = 2
refusal_number cause.BadSystemState = 4
refusal_number cause.Busy = 0x81
refusal_number cause.BadParameter = 3
refusal_number cause.ShortMailbox = 0x83
refusal_number cause.BadContent = 3
refusal_number cause.Held = 0x81
refusal_number (cause.Denied d) = denial_number d
refusal_number cause.Full = 0x82

-- 0 means done or accepted: of every answer, whatever it gives beside it.
abbrev pub number_of : {A : Type 0} → Result A Refusal → ℕ
number_of (Ok a) = 0
number_of (Err c) = refusal_number c

-- An acceptance also gives the slot.
abbrev pub submit_number : Result Submission Refusal → ℕ
submit_number (Ok submit.Done) = 0
submit_number (Ok (submit.Accepted k)) = 0
submit_number (Err c) = refusal_number c

abbrev pub submit_values : Result Submission Refusal → List ℕ
submit_values (Ok submit.Done) = []
submit_values (Ok (submit.Accepted k)) = k ∷ []
submit_values (Err c) = []

-- A step gives the bursts still to move.
abbrev pub step_number : Result ℕ Refusal → ℕ
step_number (Ok n) = 0
step_number (Err c) = refusal_number c

abbrev pub step_values : Result ℕ Refusal → List ℕ
step_values (Ok n) = n ∷ []
step_values (Err c) = []

-- A collection gives the bytes of the answer, which stand at the front of the buffer.
abbrev pub collect_number : Result ℕ Refusal → ℕ
collect_number (Ok n) = 0
collect_number (Err c) = refusal_number c

abbrev pub collect_values : Result ℕ Refusal → List ℕ → List ℕ
collect_values (Ok n) out = take n out
collect_values (Err c) out = []

abbrev pub reset_number : Result (Unit {0}) Refusal → ℕ
reset_number (Ok tt) = 0
reset_number (Err c) = refusal_number c

-- Which causes are the record's state: the edge is not permitted, or the owner is the wrong one (01, The plain book of demand 3); the edge
-- is not permitted for the record's service type (02, wish 5); and a name in the record is out of range (02, wish 2).
abbrev pub of_state : Denial → Bool
of_state denial.Edge = true
of_state denial.ServiceType = true
of_state denial.Owner = true
of_state denial.Name = true

abbrev pub for_state : Refusal → Bool
for_state cause.BadLength = false
for_state cause.Impossible = false
for_state cause.NoRequest = false
for_state cause.StillRunning = false
for_state cause.ShortBuffer = false
for_state cause.Malformed = false
for_state cause.NotServed = false
for_state cause.BadSystemState = false
for_state cause.Busy = false
for_state cause.BadParameter = false
for_state cause.ShortMailbox = false
for_state cause.BadContent = false
for_state cause.Held = false
for_state (cause.Denied d) = of_state d
for_state cause.Full = false
