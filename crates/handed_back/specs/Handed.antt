-- The world afterwards, of each operation, from what it was handed and what it hands back; its `ensures` says that this is the world of
-- the rules. And what is handed back where no slot changes: slot 0 as it was, so that the row is as it was.
use Rattle.std.specs.Prelude.{List, ℕ, get_or, set, Result, Err}
use Rattle.slots.specs.Slots.{slot}
use Rattle.slots.specs.declared.Slot.{Slot}
use Rattle.slots.specs.declared.Status.TheVariants.{Free}
use Rattle.possible.specs.declared.Hca.{Hca}
use Rattle.rules.specs.World.{world}
use Rattle.rules.specs.declared.Refusal.{Refusal}
use Rattle.rules.specs.Admission as admission
use Rattle.rules.specs.Steps as steps
use Rattle.rules.specs.Collections as collections
use Rattle.rules.specs.Resets as resets
use Rattle.rules.specs.declared.Submission.{Submission}
use Rattle.handed_back.specs.declared.Submitted.{Submitted}
use Rattle.handed_back.specs.declared.HandedBack.{HandedBack}
use Rattle.handed_back.specs.declared.WasReset.{WasReset}

-- ---- what is handed back, as the rules' own results: the answer, and the world with the slot in its place

abbrev pub submit_handed : List Slot → List ℕ → List ℕ → Submitted → admission.Submitted
submit_handed row store room r =
    admission.submitted r.answer (world r.hca (set row r.at r.slot) store room)

abbrev pub step_handed : Hca → List Slot → List ℕ → List ℕ → HandedBack ℕ → steps.Stepped
step_handed h row store room r = steps.stepped r.answer (world h (set row r.at r.slot) store room)

abbrev pub collect_handed : Hca → List Slot → List ℕ → List ℕ → List ℕ → HandedBack ℕ → collections.Collected
collect_handed h row store room out r = collections.collected r.answer (world h (set row r.at r.slot) store room) out

abbrev pub reset_handed : List ℕ → List ℕ → WasReset → resets.Reset
reset_handed store room r = resets.resetted r.answer (world r.hca r.row store room)

-- ---- what is handed back where no slot changes

abbrev pub same_row : List Slot → Result Submission Refusal → Hca → Submitted
same_row row a h = record { answer = a; hca = h; at = 0; slot = get_or row 0 (slot Free) }

abbrev pub refusal_handed : {A : Type 0} → List Slot → Refusal → HandedBack A
refusal_handed row c = record { answer = Err c; at = 0; slot = get_or row 0 (slot Free) }

-- The same of a step and of a collection.
abbrev pub step_refusal : List Slot → Refusal → HandedBack ℕ
step_refusal row c = refusal_handed row c

abbrev pub collect_refusal : List Slot → Refusal → HandedBack ℕ
collect_refusal row c = refusal_handed row c
