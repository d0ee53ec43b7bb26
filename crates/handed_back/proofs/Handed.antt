-- Laws about the definitions of specs/Handed.antt.
use Rattle.std.specs.Prelude.{◌≡◌, refl, List, [], ◌∷◌, ℕ, get_or, set, Result}
use Rattle.std.proofs.Common.{◌∙◌, ap}
use Rattle.slots.specs.Slots.{slot}
use Rattle.slots.specs.declared.Slot.{Slot}
use Rattle.slots.specs.declared.Status.TheVariants.{Free}
use Rattle.possible.specs.declared.Hca.{Hca}
use Rattle.rules.specs.World.{world}
use Rattle.rules.specs.declared.Refusal.{Refusal}
use Rattle.rules.specs.Admission as admission
use Rattle.rules.specs.Steps as steps
use Rattle.rules.specs.Collections as collections
use Rattle.rules.specs.declared.Submission.{Submission}
use Rattle.handed_back.specs.declared.Submitted.{Submitted}
use Rattle.handed_back.specs.declared.HandedBack.{HandedBack}
use Rattle.handed_back.specs.Handed.{collect_handed, collect_refusal, same_row, step_handed, step_refusal, submit_handed}

-- the row is then as it was
pub set_first : (row : List Slot) (d : Slot) → set row 0 (get_or row 0 d) ≡ row
set_first [] d = refl
set_first (x ∷ row) d = refl

pub same_row_lem : (row : List Slot) (store room : List ℕ) (a : Result Submission Refusal) (h : Hca) (r : Submitted) → r ≡ same_row row a h
    → submit_handed row store room r ≡ admission.submitted a (world h row store room)
same_row_lem row store room a h r e =
    ap (submit_handed row store room) e
    ∙ ap (λ (l : List Slot). admission.submitted a (world h l store room)) (set_first row (slot Free))

pub step_refusal_lem : (h : Hca) (row : List Slot) (store room : List ℕ) (c : Refusal) (r : HandedBack ℕ) → r ≡ step_refusal row c
    → step_handed h row store room r ≡ steps.step_refused (world h row store room) c
step_refusal_lem h row store room c r e =
    ap (step_handed h row store room) e
    ∙ ap (λ (l : List Slot). steps.step_refused (world h l store room) c) (set_first row (slot Free))

pub collect_refusal_lem : (h : Hca) (row : List Slot) (store room out : List ℕ) (c : Refusal) (r : HandedBack ℕ) → r ≡ collect_refusal row c
    → collect_handed h row store room out r ≡ collections.collect_refused (world h row store room) out c
collect_refusal_lem h row store room out c r e =
    ap (collect_handed h row store room out) e
    ∙ ap (λ (l : List Slot). collections.collect_refused (world h l store room) out c) (set_first row (slot Free))
