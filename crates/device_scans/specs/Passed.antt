-- Which slots a scan for a hold passes over by their bytes: those that do not run, and those whose index is another than the record's,
-- but for a joined read, which holds records that its index does not name (02, wish 2).
use Rattle.std.specs.Prelude.{◌≡◌, Bool, true, false, eqb, length, get_or, Option, Some, None}
use Rattle.std.proofs.Math.Path.{refl, sym}
use Rattle.std.proofs.Common.{◌∙◌, ap, true≢false, add-zero, arith, lit<, lit≤}
use mathlib.Core.List.{List, [], ◌∷◌}
use Prim.Native.Nat.{ℕ, ◌+◌, ◌<◌}
use Rattle.std.proofs.Math.Decide.{ℕ_discrete}
use borrow.Author.Tests.{eq-eqb, ne_eqb}
use Rattle.words.specs.Choice.{pick, either}
use Rattle.words.proofs.Choice.{by_pick}
use Rattle.words.proofs.Tests.{both_false}
use Rattle.words.specs.Parts.{part}
use Rattle.words.proofs.Parts.{get_or_part, part_part}
use Rattle.words.specs.Words.{le32, le_value}
use Rattle.context.specs.Layout.{kind_of, kind_code, number_of, same_record}
use Rattle.context.specs.declared.Record.{Record}
use Rattle.context.specs.declared.Record.TheVariants as rec
use Rattle.commands.specs.Commands.{read_op, command_on, command_right, owned_at}
use Rattle.commands.proofs.Reading.{command_read}
use Rattle.commands.specs.declared.Op.{Op}
use Rattle.commands.specs.declared.Op.TheVariants as op
use Rattle.commands.specs.declared.Table.{Table}
use Rattle.commands.specs.declared.Table.TheVariants as table
use Rattle.commands.specs.declared.CommandAsked.{CommandAsked}
use Rattle.engines.specs.Engines.{read_number, engine_right, request_on}
use Rattle.engines.proofs.Reading.{engine_read}
use Rattle.engines.specs.declared.EngineNumber.{EngineNumber}
use Rattle.engines.specs.declared.EngineNumber.TheVariants as number
use Rattle.engines.specs.declared.EngineAsked.{EngineAsked}
use Rattle.request_table.specs.Records.{owned_record, records_of, one_of}
use Rattle.slot_requests.specs.Requests.{any_index, on_record, with_op}
use Rattle.slots.specs.declared.Status.{Status}
use Rattle.slots.specs.declared.Status.TheVariants.{Free, Running, Finished}
use Rattle.holds.specs.Holds.{clash_records, clash_status, clash_slot}
use Rattle.device_bytes.specs.Decoding.{slot_place, engine_held, number_held, op_field, request_in, broken, status_held, status_of, slot_at}
use Rattle.requests.specs.declared.Request.{Request}

-- slot k may hold a record with this number: it runs, and has that index or may be a joined read, whose number is 7
unfoldable pub may_hold : ℕ → ℕ → List ℕ → Bool
may_hold n k dev =
    pick (eqb (get_or dev (slot_place k) 0) 1)
    (pick (eqb (le32 (slot_place k + 8) dev) n) true (eqb (get_or dev (slot_place k + 4) 0) 7))
    false

-- as the code asks: x is the index that it read
module _ (n k : ℕ) (dev : List ℕ) (x : ℕ) (running : get_or dev (slot_place k) 0 ≡ 1) (read : x ≡ le32 (slot_place k + 8) dev) where
  pub may_indexed : x ≡ n → true ≡ may_hold n k dev
  unfolding may_hold
  may_indexed e = rw (running, sym read ∙ e, eq-eqb n n refl)

  pub may_joined : (r : Bool) → ¬ (x ≡ n) → r ≡ eqb (get_or dev (slot_place k + 4) 0) 7 → r ≡ may_hold n k dev
  unfolding may_hold
  may_joined r e f = rw (running, ne_eqb (le32 (slot_place k + 8) dev) n (λ i. e (read ∙ i))) f

-- ---- the request of a slot

-- X is none of its records
abbrev Apart : Record → Option Request → Type 0
Apart X (Some q) = one_of (records_of q) X ≡ false
Apart X None = Unit {0}

-- a number that is not the joined read's
abbrev Plain : Option EngineNumber → Type 0
Plain (Some number.ReadState) = Unit {0}
Plain (Some number.ReadNext) = Unit {0}
Plain (Some number.ReadAll) = Unit {0}
Plain (Some (number.Write p)) = Unit {0}
Plain (Some number.ReadJoined) = ⊥
Plain None = Unit {0}

number_plain : (n : ℕ) → ¬ (n ≡ 7) → Plain (read_number n)
unfolding read_number
number_plain n h =
    rw (ne_eqb n 7 h)
    (by_pick Plain (eqb n 1) _ _ (λ _. tt)
    (λ _. by_pick Plain (eqb n 2) _ _ (λ _. tt)
    (λ _. by_pick Plain (eqb n 3) _ _ (λ _. tt)
    (λ _. by_pick Plain (eqb n 4) _ _ (λ _. tt)
    (λ _. by_pick Plain (eqb n 5) _ _ (λ _. tt)
    (λ _. by_pick Plain (eqb n 6) _ _ (λ _. tt) (λ _. tt)))))))

owned_number : (t : Table) (n : ℕ) → number_of (owned_record (owned_at t n)) ≡ n
owned_number table.Mpt n = refl
owned_number table.Eq n = refl
owned_number table.Cq n = refl

module _ (X : Record) (n : ℕ) (other : ¬ (n ≡ number_of X)) where
  one_apart : (Y : Record) → number_of Y ≡ n → either (same_record Y X) false ≡ false
  unfolding same_record
  one_apart Y e =
      rw (both_false (eqb (kind_code (kind_of Y)) (kind_code (kind_of X))) (eqb (number_of Y) (number_of X))
      (ne_eqb (number_of Y) (number_of X) (λ f. other (sym e ∙ f))))

  on_apart : (o : Op) → Apart X (on_record (command_on o n))
  on_apart op.InitHca = tt
  on_apart op.CloseHca = tt
  on_apart op.Nop = tt
  on_apart (op.Sw2Hw t) = one_apart (owned_record (owned_at t n)) (owned_number t n)
  on_apart (op.Hw2Sw t) = one_apart (owned_record (owned_at t n)) (owned_number t n)
  on_apart op.ResizeCq = one_apart (rec.Cq (record { 0 = n })) refl
  on_apart op.QueryQp = one_apart (rec.Qp (record { 0 = n })) refl
  on_apart (op.ModifyQp e) = one_apart (rec.Qp (record { 0 = n })) refl

  command_apart : (f : Option Op) (m : ℕ) → Apart X (with_op f m n)
  command_apart (Some o) m =
      rw (command_read any_index o m n)
      (by_pick (λ (f : Option CommandAsked). Apart X (on_record f)) (command_right any_index o m n) (command_on o n) None
      (λ _. on_apart o) (λ _. tt))
  command_apart None m = tt

  asked_apart : (k : EngineNumber) (cq eq psn state : ℕ) → Plain (Some k)
      → Apart X (engine_held cq eq (request_on k n psn state))
  asked_apart number.ReadState cq eq psn state p = one_apart (rec.Qp (record { 0 = n })) refl
  asked_apart number.ReadNext cq eq psn state p = one_apart (rec.Qp (record { 0 = n })) refl
  asked_apart number.ReadAll cq eq psn state p = one_apart (rec.Qp (record { 0 = n })) refl
  asked_apart (number.Write f) cq eq psn state p = one_apart (rec.Qp (record { 0 = n })) refl
  asked_apart number.ReadJoined cq eq psn state p = absurd p

  engine_apart : (f : Option EngineNumber) (cq eq psn state : ℕ) → Plain f → Apart X (number_held n cq eq psn state f)
  engine_apart (Some k) cq eq psn state p =
      rw (engine_read any_index k n psn state)
      (by_pick (λ (f : Option EngineAsked). Apart X (engine_held cq eq f)) (engine_right any_index k n psn state) (request_on k n psn state)
      None (λ _. asked_apart k cq eq psn state p) (λ _. tt))
  engine_apart None cq eq psn state p = tt

request_apart : (X : Record) (b : List ℕ) → ¬ (le32 8 b ≡ number_of X) → ¬ (get_or b 4 0 ≡ 7) → Apart X (request_in b)
unfolding request_in
request_apart X b other plain =
    by_pick (Apart X) (eqb (get_or b 1 0) 0) _ _ (λ _. command_apart X (le32 8 b) other (read_op (op_field b)) (get_or b 3 0))
    (λ _. by_pick (Apart X) (eqb (get_or b 1 0) 1) _ None
    (λ _. engine_apart X (le32 8 b) other (read_number (op_field b)) (le32 12 b) (le32 16 b) (le32 20 b) (get_or b 24 0)
    (number_plain (op_field b) (λ e. plain (omega arith))))
    (λ _. tt))

-- ---- the slot

index_in : (k : ℕ) (dev : List ℕ) → k < 8 → length dev ≡ 288 → le32 8 (part (slot_place k) 32 dev) ≡ le32 (slot_place k + 8) dev
unfolding le32
index_in k dev h l = ap le_value (part_part (slot_place k) 32 8 4 dev (omega arith) (lit≤ tt))

module _ (w : Bool) (X : Record) where
  abbrev Clear : Status → Type 0
  Clear s = clash_status w (X ∷ []) s ≡ false

  -- a request that does not run
  still_clear : (code m : ℕ) (f : Option Request) → ¬ (code ≡ 1) → Clear (status_held code m f)
  still_clear code m (Some q) n = rw (ne_eqb code 1 n) (by_pick Clear (eqb code 2) (Finished m q) broken (λ _. refl) (λ _. refl))
  still_clear code m None n = refl

  -- one that has not the record
  apart_clear : (code m : ℕ) (f : Option Request) → Apart X f → Clear (status_held code m f)
  unfolding clash_records
  apart_clear code m (Some q) a =
      by_pick Clear (eqb code 1) (Running m q) _ (λ _. rw a)
      (λ _. by_pick Clear (eqb code 2) (Finished m q) broken (λ _. refl) (λ _. refl))
  apart_clear code m None a = refl

  module _ (b : List ℕ) where
    status_clear : Clear (status_held (get_or b 0 0) (get_or b 2 0) (request_in b)) → Clear (status_of b)
    unfolding status_of
    status_clear c = by_pick Clear (eqb (get_or b 0 0) 0) Free _ (λ _. refl) (λ _. c)

    still : ¬ (get_or b 0 0 ≡ 1) → Clear (status_of b)
    still n = status_clear (still_clear (get_or b 0 0) (get_or b 2 0) (request_in b) n)

    apart : ¬ (le32 8 b ≡ number_of X) → ¬ (get_or b 4 0 ≡ 7) → Clear (status_of b)
    apart other plain = status_clear (apart_clear (get_or b 0 0) (get_or b 2 0) (request_in b) (request_apart X b other plain))

  -- a slot that may not hold the record holds it against nobody
  pub passed : (k : ℕ) (dev : List ℕ) → k < 8 → length dev ≡ 288 → may_hold (number_of X) k dev ≡ false
      → clash_slot w (X ∷ []) (slot_at k dev) ≡ false
  unfolding may_hold slot_at
  passed k dev h l e =
      go (ℕ_discrete (get_or dev (slot_place k) 0) 1) (ℕ_discrete (le32 (slot_place k + 8) dev) (number_of X))
      (ℕ_discrete (get_or dev (slot_place k + 4) 0) 7)
    where
      b : List ℕ
      b = part (slot_place k) 32 dev

      status : get_or b 0 0 ≡ get_or dev (slot_place k) 0
      status = get_or_part (slot_place k) 32 dev 0 (lit< tt) ∙ ap (λ (i : ℕ). get_or dev i 0) (add-zero (slot_place k))

      op_byte : get_or b 4 0 ≡ get_or dev (slot_place k + 4) 0
      op_byte = get_or_part (slot_place k) 32 dev 4 (lit< tt)

      go : Dec (get_or dev (slot_place k) 0 ≡ 1) → Dec (le32 (slot_place k + 8) dev ≡ number_of X) → Dec (get_or dev (slot_place k + 4) 0 ≡ 7)
          → Clear (status_of b)
      go (no n) i j = still b (λ f. n (sym status ∙ f))
      go (yes s) (yes i) j = absurd (true≢false (rw (eq-eqb _ 1 s, eq-eqb _ _ i) at e))
      go (yes s) (no i) (yes j) = absurd (true≢false (rw (eq-eqb _ 1 s, ne_eqb _ _ i, eq-eqb _ 7 j) at e))
      go (yes s) (no i) (no j) = apart b (λ f. i (sym (index_in k dev h l) ∙ f)) (λ f. j (sym op_byte ∙ f))
