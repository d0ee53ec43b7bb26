-- Laws of holds, as the operations and their theorems use them.
use Rattle.std.specs.Prelude.{◌≡◌, refl, Bool, true, false, List, [], ◌∷◌, ◌⊎◌, ℕ}
use Rattle.std.proofs.Common.{sym, ◌∙◌, ap, ap₂, inl, inr}
use Rattle.std.proofs.lemmas.Bool.{false≢true}
use Rattle.words.specs.Choice.{both, either}
use Rattle.words.proofs.Tests.{neither, neither_left, neither_right, either_swap}
use Rattle.context.specs.declared.CqNumber.{CqNumber}
use Rattle.context.specs.declared.EqNumber.{EqNumber}
use Rattle.context.specs.declared.QpNumber.{QpNumber}
use Rattle.context.specs.declared.Record.{Record}
use Rattle.context.specs.declared.Record.TheVariants as rec
use Rattle.requests.specs.declared.EngineRequest.TheVariants as engine
use Rattle.requests.specs.declared.Request.{Request}
use Rattle.requests.specs.declared.Request.TheVariants as request
use Rattle.request_table.specs.Records.{records_of, writes_of, one_of}
use Rattle.request_table.specs.Listed.{In, share}
use Rattle.request_table.proofs.Listed.{share_symmetric, in_both}
use Rattle.slots.specs.Slots.{Held, slot}
use Rattle.slots.specs.declared.Slot.{Slot}
use Rattle.slots.specs.declared.Status.{Status}
use Rattle.slots.specs.declared.Status.TheVariants.{Free, Running, Finished}
use Rattle.rows.specs.Rows.{any_slot}
use Rattle.rows.proofs.Every.{at, NoneOf, none_each, each_none}
use Rattle.holds.specs.Holds.{clash_pair, clash_records, clash_status, clash_slot, held_against, read_held}

both_either : (p q w : Bool) → either (both p w) (both q w) ≡ both (either p q) w
both_either true true true = refl
both_either true true false = refl
both_either true false true = refl
both_either true false false = refl
both_either false q w = refl

-- a clash is a record that both have, and one of the two that writes
clash_shared : (q : Held) (w : Bool) (Xs : List Record)
    → clash_records q w Xs ≡ both (share (records_of q) Xs) (either (writes_of q) w)
unfolding clash_records
clash_shared q w [] = refl
clash_shared q w (X ∷ Xs) =
    ap (either (clash_pair q w X)) (clash_shared q w Xs)
    ∙ both_either (one_of (records_of q) X) (share (records_of q) Xs) (either (writes_of q) w)

-- two requests clash whichever of them came first
pub clash_symmetric : (q r : Held) → clash_records q (writes_of r) (records_of r) ≡ clash_records r (writes_of q) (records_of q)
clash_symmetric q r =
    clash_shared q (writes_of r) (records_of r)
    ∙ ap₂ both (share_symmetric (records_of q) (records_of r)) (either_swap (writes_of q) (writes_of r))
    ∙ sym (clash_shared r (writes_of q) (records_of q))

pub held_symmetric : (q r : Held) (m n : ℕ) → held_against (slot (Running m q) ∷ []) r ≡ held_against (slot (Running n r) ∷ []) q
unfolding held_against any_slot
held_symmetric q r m n = ap (λ (b : Bool). either b false) (clash_symmetric q r)

-- the last burst ends a hold, before the collection: a finished request holds nothing against another
pub held_finished : (q : Held) (r : Request) (m : ℕ) → held_against (slot (Finished m q) ∷ []) r ≡ false
unfolding held_against any_slot
held_finished q r m = refl

-- no record is held against a request: no slot holds one
pub held_each : (row : List Slot) (q : Request) → held_against row q ≡ false → NoneOf (clash_slot (writes_of q) (records_of q)) row
unfolding held_against
held_each row q e = none_each (clash_slot (writes_of q) (records_of q)) row refl e

pub held_none : (row : List Slot) (q : Request) → held_against row q ≡ false
    → (k : ℕ) (r : Held) (m : ℕ) → (at row k).status ≡ Running m r → clash_records r (writes_of q) (records_of q) ≡ false
held_none row q e k r m f = ap (clash_status (writes_of q) (records_of q)) (sym f) ∙ held_each row q e k

-- two requests that do not clash and have a record in common are readers
pub readers : (q r : Held) (X : Record) → clash_records r (writes_of q) (records_of q) ≡ false
    → In X (records_of q) → In X (records_of r) → either (writes_of r) (writes_of q) ≡ false
readers q r X e i j =
    ap (λ (b : Bool). both b (either (writes_of r) (writes_of q))) (sym (in_both X (records_of q) (records_of r) i j))
    ∙ sym (clash_shared r (writes_of q) (records_of q)) ∙ e

pub no_writer : (q r : Held) (X : Record) → clash_records r (writes_of q) (records_of q) ≡ false
    → In X (records_of q) → In X (records_of r) → (writes_of r ≡ true) ⊎ (writes_of q ≡ true) → ⊥
no_writer q r X e i j (inl w) = false≢true (sym (neither_left (writes_of r) (writes_of q) (readers q r X e i j)) ∙ w)
no_writer q r X e i j (inr w) = false≢true (sym (neither_right (writes_of r) (writes_of q) (readers q r X e i j)) ∙ w)

-- no record is held against a request: it and a running request that has a record in common with it are readers
pub held_readers : (row : List Slot) (q : Request) → held_against row q ≡ false
    → (k : ℕ) (r : Held) (m : ℕ) → (at row k).status ≡ Running m r
    → (X : Record) → In X (records_of q) → In X (records_of r) → either (writes_of r) (writes_of q) ≡ false
held_readers row q e k r m f X = readers q r X (held_none row q e k r m f)

-- ---- a reader that asks for its records in turn

-- a record that is not held against a reader has no writer
pub read_free : (row : List Slot) (X : Record) → read_held row X ≡ false
    → (k : ℕ) (r : Held) (m : ℕ) → (at row k).status ≡ Running m r → In X (records_of r) → writes_of r ≡ true → ⊥
unfolding read_held
read_free row X e k r m f i w =
    false≢true (sym (sym shared ∙ ap (clash_status false (X ∷ [])) (sym f) ∙ none_each (clash_slot false (X ∷ [])) row refl e k))
  where
    shared : clash_records r false (X ∷ []) ≡ true
    shared = clash_shared r false (X ∷ []) ∙ rw (in_both X (X ∷ []) (records_of r) (inl refl) i, w)

three_free : (X Y Z : Record) (s : Status) → clash_status false (X ∷ []) s ≡ false → clash_status false (Y ∷ []) s ≡ false
    → clash_status false (Z ∷ []) s ≡ false → clash_status false (X ∷ Y ∷ Z ∷ []) s ≡ false
unfolding clash_records
three_free X Y Z Free a b c = refl
three_free X Y Z (Running m q) a b c =
    neither (clash_pair q false X) _ (neither_left (clash_pair q false X) false a)
    (neither (clash_pair q false Y) _ (neither_left (clash_pair q false Y) false b) c)
three_free X Y Z (Finished m q) a b c = refl

-- three records that are not held against a reader, one asked for after the other, are not held against a joined read
pub held_joined : (row : List Slot) (n : QpNumber) (c : CqNumber) (e : EqNumber) → read_held row (rec.Qp n) ≡ false
    → read_held row (rec.Cq c) ≡ false → read_held row (rec.Eq e) ≡ false
    → held_against row (request.Engine (engine.ReadJoined n c e)) ≡ false
unfolding held_against read_held
held_joined row n c e x y z =
    each_none (clash_slot false (rec.Qp n ∷ rec.Cq c ∷ rec.Eq e ∷ [])) row
    (λ k. three_free (rec.Qp n) (rec.Cq c) (rec.Eq e) (at row k).status (none (rec.Qp n) x k) (none (rec.Cq c) y k) (none (rec.Eq e) z k))
  where
    none : (X : Record) → any_slot (clash_slot false (X ∷ [])) row ≡ false → (k : ℕ) → clash_status false (X ∷ []) (at row k).status ≡ false
    none X = none_each (clash_slot false (X ∷ [])) row refl
