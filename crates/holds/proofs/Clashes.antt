-- The turns of the scan for clashes: one pair, the inner loop over a request's records, and what it says of the outer loop's
-- slot.
use Rattle.std.specs.Prelude.{◌≡◌, Bool, true, false, List, [], ℕ, suc, ◌+◌, ◌≤◌, ◌<◌, length, get_or, drop}
use Rattle.std.proofs.Common.{sym, ◌∙◌, ap, ap₂, add-one, arith, drop_of_length-le, drop-cons}
use Rattle.words.specs.Choice.{both, either}
use Rattle.context.specs.declared.Record.{Record}
use Rattle.requests.specs.declared.Request.{Request}
use Rattle.request_table.specs.Records.{list_of, holds_of, records_of, no_record, one_of, writes_of}
use Rattle.request_table.specs.declared.Records.{Records}
use Rattle.slots.specs.Slots.{Held}
use Rattle.rows.specs.Rows.{any_slot}
use Rattle.holds.specs.Holds.{clash_pair, clash_records, clash_status, clash_slot, held_against}
use Rattle.slots.specs.declared.Slot.{Slot}
use Rattle.slots.specs.declared.Status.{Status}
use Rattle.slots.specs.declared.Status.TheVariants.{Running}

-- ---- one pair: H are the running request's records as the code has them, b whether X is one of them, v whether it writes

module _ (q : Held) (w : Bool) (X : Record) (H : Records) (b : Bool) (e : H ≡ holds_of q) (f : b ≡ one_of (list_of H) X) where
  one_is : one_of (records_of q) X ≡ b
  one_is = ap (λ (h : Records). one_of (list_of h) X) (sym e) ∙ sym f

  pub pair_apart : b ≡ false → false ≡ clash_pair q w X
  pair_apart g = ap (λ (t : Bool). both t (either (writes_of q) w)) (sym (one_is ∙ g))

  pub pair_met : (v r : Bool) → b ≡ true → v ≡ writes_of q → r ≡ either v w → r ≡ clash_pair q w X
  pair_met v r g m h = h ∙ ap₂ (λ (t u : Bool). both t (either u w)) (sym (one_is ∙ g)) m

-- ---- the inner loop: n is the number of records

records_head : (q : Held) (w : Bool) (Xs : List Record) (j : ℕ) → j < length Xs
    → clash_records q w (drop j Xs) ≡ either (clash_pair q w (get_or Xs j no_record)) (clash_records q w (drop (suc j) Xs))
unfolding clash_records
records_head q w Xs j h = rw (drop-cons Xs j no_record h)

pub records_more : (q : Held) (w : Bool) (Xs : List Record) (j : ℕ) (r : Bool) (n : ℕ) → n ≡ length Xs → j < n
    → clash_pair q w (get_or Xs j no_record) ≡ false → clash_records q w (drop j Xs) ≡ r → clash_records q w (drop (j + 1) Xs) ≡ r
records_more q w Xs j r n l h t k =
    rw add-one (simp t at (sym (records_head q w Xs j (omega arith)) ∙ k))

pub records_found : (q : Held) (w : Bool) (Xs : List Record) (j n : ℕ) → n ≡ length Xs → j < n
    → clash_pair q w (get_or Xs j no_record) ≡ true → clash_records q w (drop j Xs) ≡ clash_records q w Xs → clash_records q w Xs ≡ true
records_found q w Xs j n l h t k =
    sym k ∙ (simp t at (records_head q w Xs j (omega arith)))

pub records_none : (q : Held) (w : Bool) (Xs : List Record) (j n : ℕ) → n ≡ length Xs → n ≤ j
    → clash_records q w (drop j Xs) ≡ clash_records q w Xs → clash_records q w Xs ≡ false
unfolding clash_records
records_none q w Xs j n l h k =
    let g : drop j Xs ≡ [] = drop_of_length-le Xs {i = j} (omega arith) in
    sym k ∙ rw g

pub below_count : (j n m : ℕ) → n ≡ m → j < n → j < m
below_count j n m e h = omega arith

-- ---- the outer loop's slot, and the scan's answer with a request's own records

pub running_is : {s : Status} {q : Held} {m : ℕ} → s ≡ Running m q → (w : Bool) (Xs : List Record) (b : Bool)
    → clash_records q w Xs ≡ b → clash_status w Xs s ≡ b
running_is e w Xs b f = rw e f

pub held_told : (q : Request) (w b : Bool) (H : Records) (l : List Slot) → w ≡ writes_of q → H ≡ holds_of q
    → b ≡ any_slot (clash_slot w (list_of H)) l → b ≡ held_against l q
unfolding held_against
held_told q w b H l e f h = h ∙ ap₂ (λ (v : Bool) (h : Records). any_slot (clash_slot v (list_of h)) l) e f

pub clash_told : (q : Held) (r : Request) (w b : Bool) (H : Records) → w ≡ writes_of r → H ≡ holds_of r
    → b ≡ clash_records q w (list_of H) → b ≡ clash_records q (writes_of r) (records_of r)
clash_told q r w b H e f h = h ∙ ap₂ (λ (v : Bool) (h : Records). clash_records q v (list_of h)) e f
