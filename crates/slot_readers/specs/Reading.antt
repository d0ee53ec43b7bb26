-- What the readers of a slot answer, in the definitions' terms.
use Rattle.std.specs.Prelude.{◌≡◌, List, ℕ, ◌+◌, ◌-◌, ◌*◌, eqb, get_or, take, drop, Option}
use Rattle.std.proofs.Common.{◌∙◌, ap, eq-eqb, ne_eqb}
use Rattle.std.proofs.Math.Nat.{add-sub_cancel_left}
use Rattle.words.specs.Choice.{pick}
use Rattle.words.proofs.Choice.{pick_yes, pick_no}
use Rattle.words.specs.Parts.{part}
use Rattle.words.specs.Words.{le32}
use Rattle.context.specs.declared.Logs.{Logs}
use Rattle.requests.specs.declared.Request.{Request}
use Rattle.engines.specs.Engines.{read_number, read_engine}
use Rattle.engines.specs.declared.EngineNumber.{EngineNumber}
use Rattle.engines.specs.declared.EngineAsked.{EngineAsked}
use Rattle.slot_requests.specs.Requests.{any_index, command_in}
use Rattle.slots.specs.Slots.{slot}
use Rattle.slots.specs.declared.Slot.{Slot}
use Rattle.slots.specs.declared.Status.{Status}
use Rattle.slots.specs.declared.Status.TheVariants.{Running, Finished}
use Rattle.device_bytes.specs.Decoding.{slot_place, engine_held, number_held, op_field, request_in, broken, status_held, status_of, slot_at}

-- a slot's status by its code, with a request that there is
unfoldable pub held_as : ℕ → ℕ → Request → Status
held_as code m q = pick (eqb code 1) (Running m q) (pick (eqb code 2) (Finished m q) broken)

pub held_as_lem : (code m : ℕ) (q : Request) (x : Status) → x ≡ held_as code m q
    → x ≡ pick (eqb code 1) (Running m q) (pick (eqb code 2) (Finished m q) broken)
unfolding held_as
held_as_lem code m q x e = e

pub number_served : (k : EngineNumber) (index cq eq psn state : ℕ) (g : Logs) (f : Option EngineAsked) (r : Option Request) → g ≡ any_index
    → f ≡ read_engine g k index psn state → r ≡ engine_held cq eq f → r ≡ engine_held cq eq (read_engine any_index k index psn state)
number_served k index cq eq psn state g f r p q e =
    e ∙ ap (engine_held cq eq) (q ∙ ap (λ (h : Logs). read_engine h k index psn state) p)

pub request_command : (b : List ℕ) (o n : ℕ) (x : Option Request) → get_or b 1 0 ≡ 0 → o ≡ op_field b → n ≡ le32 8 b
    → x ≡ command_in o (get_or b 3 0) n → x ≡ request_in b
unfolding request_in
request_command b o n x k p q e =
    pick_yes (eqb (get_or b 1 0) 0) _ _ x (eq-eqb (get_or b 1 0) 0 k) (e ∙ (λ i. command_in (p i) (get_or b 3 0) (q i)))

pub request_engine : (b : List ℕ) (o w n cq eq psn : ℕ) (f : Option EngineNumber) (x : Option Request) → ¬ (get_or b 1 0 ≡ 0) → get_or b 1 0 ≡ 1
    → o ≡ op_field b → w ≡ o → n ≡ le32 8 b → cq ≡ le32 12 b → eq ≡ le32 16 b → psn ≡ le32 20 b → f ≡ read_number w
    → x ≡ number_held n cq eq psn (get_or b 24 0) f → x ≡ request_in b
unfolding request_in
request_engine b o w n cq eq psn f x i k p v q c d u r e =
    pick_no (eqb (get_or b 1 0) 0) _ _ x (ne_eqb (get_or b 1 0) 0 i)
    (pick_yes (eqb (get_or b 1 0) 1) _ _ x (eq-eqb (get_or b 1 0) 1 k)
    (e ∙ (λ j. number_held (q j) (c j) (d j) (u j) (get_or b 24 0) ((r ∙ ap read_number (v ∙ p)) j))))

pub status_request : (b : List ℕ) (f : Option Request) (x : Status) → ¬ (get_or b 0 0 ≡ 0) → f ≡ request_in b
    → x ≡ status_held (get_or b 0 0) (get_or b 2 0) f → x ≡ status_of b
unfolding status_of
status_request b f x h p e =
    pick_no (eqb (get_or b 0 0) 0) _ _ x (ne_eqb (get_or b 0 0) 0 h) (e ∙ ap (status_held (get_or b 0 0) (get_or b 2 0)) p)

pub slot_made : (k : ℕ) (dev : List ℕ) (x : Status) → x ≡ status_of (take (32 + k * 32 + 32 - (32 + k * 32)) (drop (32 + k * 32) dev))
    → slot x ≡ slot_at k dev
unfolding slot_at part
slot_made k dev x e = ap slot e ∙ rw add-sub_cancel_left
