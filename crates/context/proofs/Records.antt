-- The facts about records, from the laws of tables: a record lies inside the bytes in use, two records lie apart, and what
-- is replaced inside one leaves every other record and every byte outside.
use Rattle.std.specs.Prelude.{◌≡◌, refl, Bool, true, false, List, ◌⊎◌, ℕ, zero, suc, ◌+◌, ◌*◌, ◌≤◌, ◌<◌, eqb, length, get_or}
use Rattle.std.proofs.Common.{sym, ◌∙◌, ap, ap₂, subst, arith, ltb-true, eqb-true, eq-eqb}
use Rattle.std.proofs.lemmas.Bool.{false≢true}
use Rattle.std.proofs.Math.Logic.{inl, inr}
use Rattle.std.proofs.Math.Decide.{dec_lt}
use Rattle.words.proofs.Choice.{both_left, both_right, both_yes}
use Rattle.words.specs.Parts.{splice}
use Rattle.words.proofs.Parts.{splice_apart, splice_below, splice_above, splice_inside}
use Rattle.context.specs.Layout.{size_of, count_of, start_of, in_use, kind_of, number_of, kind_code, ranges_hold, is_record}
use Rattle.context.specs.Layout.{record_at, record_size, bytes_of, same_record}
use Rattle.context.proofs.Counts.{in_use_small}
use Rattle.context.proofs.Tables.{Apart, table_in, table_apart}
use Rattle.context.specs.declared.Kind.{Kind}
use Rattle.context.specs.declared.Kind.TheVariants as kind
use Rattle.context.specs.declared.Record.{Record}
use Rattle.context.specs.declared.Record.TheVariants as record'
use Rattle.context.specs.declared.Logs.{Logs}

-- a table ends where the next starts, and the last where the bytes in use end
end_of : Logs → Kind → ℕ
end_of g k = start_of g k + count_of g k * size_of k

table_end : (g : Logs) (k : Kind) → end_of g k ≤ in_use g
unfolding end_of
table_end g kind.Qp = omega arith
table_end g kind.Cq = omega arith
table_end g kind.Eq = omega arith
table_end g kind.Mpt = omega arith

pub record_inside : (g : Logs) (r : Record) → is_record g r ≡ true → record_at g r + record_size r ≤ in_use g
unfolding is_record record_at end_of
record_inside g r h =
    let k : number_of r < count_of g (kind_of r) = ltb-true (number_of r) (count_of g (kind_of r)) h in
    omega (arith, table_in (start_of g (kind_of r)) (size_of (kind_of r)) (number_of r) (count_of g (kind_of r)) k, table_end g (kind_of r))

pub size_least : (r : Record) → 64 ≤ record_size r
size_least (record'.Qp n) = omega arith
size_least (record'.Cq n) = omega arith
size_least (record'.Eq n) = omega arith
size_least (record'.Mpt n) = omega arith

pub record_small : (g : Logs) (r : Record) → ranges_hold g ≡ true → is_record g r ≡ true → record_at g r + record_size r ≤ 9439232
record_small g r h k = omega (arith, record_inside g r k, in_use_small g h)

-- where a record starts, from its kind, its table's start, its number and its size, as the code has them
pub record Starts (g : Logs) (r : Record) (start number size : ℕ) : Type 0 where
  pub is : start + number * size ≡ record_at g r
  pub small : start + number * size ≤ 9439232

pub starts : (g : Logs) (r : Record) (k : Kind) (start number size : ℕ) → ranges_hold g ≡ true → is_record g r ≡ true
    → k ≡ kind_of r → start ≡ start_of g k → number ≡ number_of r → size ≡ size_of k → Starts g r start number size
unfolding record_at
starts g r k start number size h i e s n z =
    let is : start + number * size ≡ start_of g (kind_of r) + number_of r * size_of (kind_of r) = rw (s, n, z, e) in
    record { is = is; small = omega (arith, record_small g r h i) }

-- ---- two records

-- a record is its kind and its number
abbrev pub record_from : Kind → ℕ → Record
record_from kind.Qp n = record'.Qp (record { 0 = n })
record_from kind.Cq n = record'.Cq (record { 0 = n })
record_from kind.Eq n = record'.Eq (record { 0 = n })
record_from kind.Mpt n = record'.Mpt (record { 0 = n })

pub record_is : (r : Record) → record_from (kind_of r) (number_of r) ≡ r
record_is (record'.Qp n) = refl
record_is (record'.Cq n) = refl
record_is (record'.Eq n) = refl
record_is (record'.Mpt n) = refl

abbrev kind_from : ℕ → Kind
kind_from zero = kind.Qp
kind_from (suc zero) = kind.Cq
kind_from (suc (suc zero)) = kind.Eq
kind_from (suc (suc (suc n))) = kind.Mpt

kind_is : (k : Kind) → kind_from (kind_code k) ≡ k
kind_is kind.Qp = refl
kind_is kind.Cq = refl
kind_is kind.Eq = refl
kind_is kind.Mpt = refl

pub same_kind : (k l : Kind) → kind_code k ≡ kind_code l → k ≡ l
same_kind k l e = sym (kind_is k) ∙ ap kind_from e ∙ kind_is l

-- the test of two records for being one decides it
pub same_record_lem : (r s : Record) → same_record r s ≡ true → r ≡ s
unfolding same_record
same_record_lem r s h =
    let k : kind_of r ≡ kind_of s =
    same_kind (kind_of r) (kind_of s) (eqb-true _ _ (both_left (eqb (kind_code (kind_of r)) (kind_code (kind_of s))) _ h)) in
    let n : number_of r ≡ number_of s = eqb-true _ _ (both_right (eqb (kind_code (kind_of r)) (kind_code (kind_of s))) _ h) in
    sym (record_is r) ∙ ap₂ record_from k n ∙ record_is s

pub record_same : (r s : Record) → r ≡ s → same_record r s ≡ true
unfolding same_record
record_same r s e =
    both_yes _ _ (eq-eqb _ _ (ap (λ (x : Record). kind_code (kind_of x)) e)) (eq-eqb _ _ (ap number_of e))

pub record? : (r s : Record) → Dec (r ≡ s)
record? r s = go (same_record r s) refl
  where
    go : (b : Bool) → same_record r s ≡ b → Dec (r ≡ s)
    go true e = yes (same_record_lem r s e)
    go false e = no (λ p. false≢true (sym e ∙ record_same r s p))

-- the tables follow one another
tables_apart : (g : Logs) (k l : Kind) → kind_code k < kind_code l → end_of g k ≤ start_of g l
unfolding end_of
tables_apart g kind.Qp kind.Qp h = absurd (omega arith)
tables_apart g kind.Qp kind.Cq h = omega arith
tables_apart g kind.Qp kind.Eq h = omega arith
tables_apart g kind.Qp kind.Mpt h = omega arith
tables_apart g kind.Cq kind.Qp h = absurd (omega arith)
tables_apart g kind.Cq kind.Cq h = absurd (omega arith)
tables_apart g kind.Cq kind.Eq h = omega arith
tables_apart g kind.Cq kind.Mpt h = omega arith
tables_apart g kind.Eq kind.Qp h = absurd (omega arith)
tables_apart g kind.Eq kind.Cq h = absurd (omega arith)
tables_apart g kind.Eq kind.Eq h = absurd (omega arith)
tables_apart g kind.Eq kind.Mpt h = omega arith
tables_apart g kind.Mpt kind.Qp h = absurd (omega arith)
tables_apart g kind.Mpt kind.Cq h = absurd (omega arith)
tables_apart g kind.Mpt kind.Eq h = absurd (omega arith)
tables_apart g kind.Mpt kind.Mpt h = absurd (omega arith)

-- a record lies inside its own table
in_table : (g : Logs) (r : Record) → is_record g r ≡ true → record_at g r + record_size r ≤ end_of g (kind_of r)
unfolding is_record record_at end_of
in_table g r h =
    table_in (start_of g (kind_of r)) (size_of (kind_of r)) (number_of r) (count_of g (kind_of r))
    (ltb-true (number_of r) (count_of g (kind_of r)) h)

from_start : (g : Logs) (r : Record) → start_of g (kind_of r) ≤ record_at g r
unfolding record_at
from_start g r = omega arith

before : (g : Logs) (r s : Record) → is_record g r ≡ true → kind_code (kind_of r) < kind_code (kind_of s)
    → record_at g r + record_size r ≤ record_at g s
before g r s h k = omega (arith, in_table g r h, tables_apart g (kind_of r) (kind_of s) k, from_start g s)

-- two different records lie apart
pub records_apart : (g : Logs) (r s : Record) → is_record g r ≡ true → is_record g s ≡ true → ¬ (r ≡ s)
    → Apart (record_at g r) (record_size r) (record_at g s) (record_size s)
unfolding record_at
records_apart g r s h k n = go (dec_lt (kind_code (kind_of r)) (kind_code (kind_of s))) (dec_lt (kind_code (kind_of s)) (kind_code (kind_of r)))
  where
    go : Dec (kind_code (kind_of r) < kind_code (kind_of s)) → Dec (kind_code (kind_of s) < kind_code (kind_of r))
        → Apart (record_at g r) (record_size r) (record_at g s) (record_size s)
    go (yes a) b = inl (before g r s h a)
    go (no a) (yes b) = inr (before g s r k b)
    go (no a) (no b) = same (same_kind (kind_of r) (kind_of s) (omega arith))
      where
        same : kind_of r ≡ kind_of s → Apart (record_at g r) (record_size r) (record_at g s) (record_size s)
        same e =
            subst
            (λ (x : Kind). Apart (start_of g (kind_of r) + number_of r * size_of (kind_of r)) (size_of (kind_of r))
            (start_of g x + number_of s * size_of x) (size_of x))
            e
            (table_apart (start_of g (kind_of r)) (size_of (kind_of r)) (number_of r) (number_of s)
            (λ f. n (sym (record_is r) ∙ ap₂ record_from e f ∙ record_is s)))

-- ---- what is replaced inside one record

module _ (g : Logs) (r : Record) (o : ℕ) (ys store : List ℕ)
    (fits : in_use g ≤ length store) (valid : is_record g r ≡ true) (inside : o + length ys ≤ record_size r) where
  room : record_at g r + o + length ys ≤ length store
  room = omega (arith, record_inside g r valid)

  -- leaves every other record
  pub record_kept : (s : Record) → is_record g s ≡ true → ¬ (r ≡ s) → bytes_of g s (splice (record_at g r + o) ys store) ≡ bytes_of g s store
  unfolding bytes_of
  record_kept s k n =
      splice_apart (record_at g r + o) ys store room (record_at g s) (record_size s) (omega (arith, record_inside g s k))
      (go (records_apart g r s valid k n))
    where
      go : Apart (record_at g r) (record_size r) (record_at g s) (record_size s)
          → Apart (record_at g r + o) (length ys) (record_at g s) (record_size s)
      go (inl h) = inl (omega arith)
      go (inr h) = inr (omega arith)

  -- is replaced in the record
  pub record_changed : bytes_of g r (splice (record_at g r + o) ys store) ≡ splice o ys (bytes_of g r store)
  unfolding bytes_of
  record_changed = splice_inside (record_at g r) (record_size r) o ys store (omega (arith, record_inside g r valid)) inside

  -- and leaves every byte outside the record
  pub outside_kept : (i : ℕ) → (i < record_at g r) ⊎ (record_at g r + record_size r ≤ i)
      → get_or (splice (record_at g r + o) ys store) i 0 ≡ get_or store i 0
  outside_kept i (inl h) = splice_below (record_at g r + o) ys store room i (omega arith)
  outside_kept i (inr h) = splice_above (record_at g r + o) ys store room i (omega arith)

-- ---- the bursts of a record: a record is a table of bursts of 16 bytes

pub burst_inside : (r : Record) (m : ℕ) → m * 16 < record_size r → m * 16 + 16 ≤ record_size r
burst_inside (record'.Qp n) m h = omega arith
burst_inside (record'.Cq n) m h = omega arith
burst_inside (record'.Eq n) m h = omega arith
burst_inside (record'.Mpt n) m h = omega arith

pub bursts_apart : (g : Logs) (r : Record) (m n : ℕ) → ¬ (m ≡ n) → Apart (record_at g r + m * 16) 16 (record_at g r + n * 16) 16
bursts_apart g r m n = table_apart (record_at g r) 16 m n
