-- Two slots clash by their codes exactly if they clash by their records.
use Rattle.std.specs.Prelude.{◌≡◌, refl, Bool, true, false, List, [], ◌∷◌, ℕ, ◌+◌, ◌*◌, ◌<◌, eqb}
use Rattle.std.proofs.Common.{sym, ◌∙◌, ap, ap₂, arith, eq-eqb, ne_eqb, lit<}
use Rattle.std.proofs.lemmas.Bool.{false≢true}
use Rattle.std.proofs.Math.Decide.{ℕ_discrete}
use Rattle.words.specs.Choice.{both, either}
use Rattle.words.proofs.Tests.{either_false, both_false}
use Rattle.context.specs.Layout.{kind_of, number_of, kind_code, same_record}
use Rattle.context.specs.declared.Kind.{Kind}
use Rattle.context.specs.declared.Kind.TheVariants as kind
use Rattle.context.specs.declared.Record.{Record}
use Rattle.context.specs.declared.Record.TheVariants as rec
use Rattle.requests.specs.declared.EngineRequest.TheVariants as engine
use Rattle.requests.specs.declared.Request.TheVariants as request
use Rattle.request_table.specs.Records.{record_of, list_of, holds_of, records_of, one_of, writes_of}
use Rattle.request_table.proofs.Laws.{write_one}
use Rattle.request_table.specs.declared.Records.{Records}
use Rattle.request_table.specs.declared.Records.TheVariants as records
use Rattle.slots.specs.Slots.{Held}
use Rattle.slots.specs.declared.Slot.{Slot}
use Rattle.slots.specs.declared.Status.{Status}
use Rattle.slots.specs.declared.Status.TheVariants.{Free, Running, Finished}
use Rattle.holds.specs.Holds.{clash_records}
use Rattle.holds.proofs.Laws.{clash_symmetric}
use Rattle.possible.specs.Possible.{statuses_clash, slots_clash}
use Rattle.hold_codes.specs.Codes.{record_code, no_hold, one_hold, hold_on, request_hold, hold_status, hold_of, has_code, holds_meet}
use Rattle.hold_codes.specs.declared.Hold.{Hold}

-- ---- codes

kind_small : (k : Kind) → kind_code k < 4
kind_small kind.Qp = lit< tt
kind_small kind.Cq = lit< tt
kind_small kind.Eq = lit< tt
kind_small kind.Mpt = lit< tt

-- two numbers and two kinds are the same exactly if their codes are
code_is : (a b k l : ℕ) → k < 4 → l < 4 → eqb (a * 4 + (k + 1)) (b * 4 + (l + 1)) ≡ both (eqb k l) (eqb a b)
code_is a b k l h i = go (ℕ_discrete k l) (ℕ_discrete a b)
  where
    go : Dec (k ≡ l) → Dec (a ≡ b) → eqb (a * 4 + (k + 1)) (b * 4 + (l + 1)) ≡ both (eqb k l) (eqb a b)
    go (yes e) (yes f) = eq-eqb (a * 4 + (k + 1)) (b * 4 + (l + 1)) (omega arith) ∙ sym (ap₂ both (eq-eqb k l e) (eq-eqb a b f))
    go (yes e) (no f) =
        ne_eqb (a * 4 + (k + 1)) (b * 4 + (l + 1)) (λ z. f (omega arith)) ∙ sym (both_false (eqb k l) (eqb a b) (ne_eqb a b f))
    go (no e) d =
        ne_eqb (a * 4 + (k + 1)) (b * 4 + (l + 1)) (λ z. e (omega arith)) ∙ sym (ap (λ (t : Bool). both t (eqb a b)) (ne_eqb k l e))

same_code : (Y X : Record) → eqb (record_code Y) (record_code X) ≡ same_record Y X
unfolding same_record
same_code Y X =
    code_is (number_of Y) (number_of X) (kind_code (kind_of Y)) (kind_code (kind_of X)) (kind_small (kind_of Y)) (kind_small (kind_of X))

some_code : (X : Record) → eqb (record_code X) 0 ≡ false
some_code X = ne_eqb (record_code X) 0 (λ e. omega arith)

no_code : (X : Record) → eqb 0 (record_code X) ≡ false
no_code X = ne_eqb 0 (record_code X) (λ e. omega arith)

-- a hold has a record's code exactly if the records have the record
has_is : (w : Bool) (Ys : Records) (X : Record) → has_code (hold_on w Ys) (record_code X) ≡ one_of (list_of Ys) X
has_is w (records.One Y) X = ap₂ either (same_code Y X) (rw (no_code X))
has_is w (records.Three n c e) X =
    ap₂ either (same_code (rec.Qp n) X)
    (ap₂ either (same_code (rec.Cq c) X) (same_code (rec.Eq e) X ∙ sym (either_false (same_record (rec.Eq e) X))))

-- ---- two holds

-- a request that writes has one record
write_hold : (q : Held) → writes_of q ≡ true → request_hold q ≡ one_hold (record_code (record_of q)) true
write_hold (request.Command c) w = ap (one_hold (record_code (record_of (request.Command c)))) w
write_hold (request.Engine (engine.ReadState n)) w = absurd (false≢true w)
write_hold (request.Engine (engine.ReadNext n)) w = absurd (false≢true w)
write_hold (request.Engine (engine.ReadAll n)) w = absurd (false≢true w)
write_hold (request.Engine (engine.Write p s n psn)) w = refl
write_hold (request.Engine (engine.ReadJoined n c e)) w = absurd (false≢true w)

reads_none : (w : Bool) (Ys : Records) → w ≡ false → (hold_on w Ys).written ≡ 0
reads_none w (records.One X) e = rw e
reads_none w (records.Three n c e) f = refl

-- the first writes
meet_written : (X : Record) (b : Hold) → holds_meet (one_hold (record_code X) true) b ≡ has_code b (record_code X)
unfolding holds_meet
meet_written X b = rw (some_code X)

-- the second alone writes
meet_read : (a : Hold) (X : Record) → a.written ≡ 0 → holds_meet a (one_hold (record_code X) true) ≡ has_code a (record_code X)
unfolding holds_meet
meet_read a X e = rw (e, some_code X)

meet_neither : (a b : Hold) → a.written ≡ 0 → b.written ≡ 0 → holds_meet a b ≡ false
unfolding holds_meet
meet_neither a b e f = rw (e, f)

-- nothing is held
meet_none : (X : Record) → has_code no_hold (record_code X) ≡ false
meet_none X = rw (no_code X)

-- ---- two slots

-- the clash of a request with one that writes
clash_write : (q r : Held) → writes_of q ≡ true → clash_records r (writes_of q) (records_of q) ≡ one_of (records_of r) (record_of q)
unfolding clash_records
clash_write q r w = rw (write_one q w, w) (either_false _ ∙ last (one_of (records_of r) (record_of q)) (writes_of r))
  where
    last : (b c : Bool) → both b (either c true) ≡ b
    last true true = refl
    last true false = refl
    last false c = refl

clash_reads : (r : Held) (Xs : List Record) → writes_of r ≡ false → clash_records r false Xs ≡ false
unfolding clash_records
clash_reads r [] w = refl
clash_reads r (X ∷ Xs) w = rw (w, clash_reads r Xs w) (ap (λ (b : Bool). either b false) (both_false (one_of (records_of r) X) false refl))

running_is : (q r : Held) → holds_meet (request_hold q) (request_hold r) ≡ clash_records r (writes_of q) (records_of q)
running_is q r = go (writes_of q) refl (writes_of r) refl
  where
    go : (v : Bool) → writes_of q ≡ v → (w : Bool) → writes_of r ≡ w
        → holds_meet (request_hold q) (request_hold r) ≡ clash_records r (writes_of q) (records_of q)
    go true e w f =
        ap (λ (h : Hold). holds_meet h (request_hold r)) (write_hold q e) ∙ meet_written (record_of q) (request_hold r)
        ∙ has_is (writes_of r) (holds_of r) (record_of q) ∙ sym (clash_write q r e)
    go false e true f =
        ap (holds_meet (request_hold q)) (write_hold r f) ∙ meet_read (request_hold q) (record_of r) (reads_none (writes_of q) (holds_of q) e)
        ∙ has_is (writes_of q) (holds_of q) (record_of r) ∙ sym (clash_write r q f) ∙ clash_symmetric q r
    go false e false f =
        meet_neither (request_hold q) (request_hold r) (reads_none (writes_of q) (holds_of q) e) (reads_none (writes_of r) (holds_of r) f)
        ∙ sym (ap (λ (b : Bool). clash_records r b (records_of q)) e ∙ clash_reads r (records_of q) f)

-- beside one that holds nothing
beside_none : (q : Held) → holds_meet (request_hold q) no_hold ≡ false
beside_none q = go (writes_of q) refl
  where
    go : (v : Bool) → writes_of q ≡ v → holds_meet (request_hold q) no_hold ≡ false
    go true e = ap (λ (h : Hold). holds_meet h no_hold) (write_hold q e) ∙ meet_written (record_of q) no_hold ∙ meet_none (record_of q)
    go false e = meet_neither (request_hold q) no_hold (reads_none (writes_of q) (holds_of q) e) refl

none_beside : (q : Held) → holds_meet no_hold (request_hold q) ≡ false
none_beside q = go (writes_of q) refl
  where
    go : (v : Bool) → writes_of q ≡ v → holds_meet no_hold (request_hold q) ≡ false
    go true e = ap (holds_meet no_hold) (write_hold q e) ∙ meet_read no_hold (record_of q) refl ∙ meet_none (record_of q)
    go false e = meet_neither no_hold (request_hold q) refl (reads_none (writes_of q) (holds_of q) e)

statuses_meet : (s t : Status) → holds_meet (hold_status s) (hold_status t) ≡ statuses_clash s t
unfolding holds_meet
statuses_meet Free Free = refl
statuses_meet Free (Running n r) = none_beside r
statuses_meet Free (Finished n r) = refl
statuses_meet (Running m q) Free = beside_none q
statuses_meet (Running m q) (Running n r) = running_is q r
statuses_meet (Running m q) (Finished n r) = beside_none q
statuses_meet (Finished m q) Free = refl
statuses_meet (Finished m q) (Running n r) = none_beside r
statuses_meet (Finished m q) (Finished n r) = refl

pub meet_is : (s u : Slot) → holds_meet (hold_of s) (hold_of u) ≡ slots_clash s u
meet_is s u = statuses_meet s.status u.status
