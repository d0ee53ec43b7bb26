-- Laws of possible states: what one says of its slots, and that accepting, advancing and freeing keep a state possible.
use Rattle.std.specs.Prelude.{◌≡◌, refl, Bool, true, false, not, List, ℕ, ◌<◌, ltb, set}
use Rattle.std.proofs.Common.{sym, ◌∙◌, ap, ap₂, inl, ltb-true}
use Rattle.std.proofs.lemmas.Bool.{not-false}
use Rattle.words.specs.Choice.{both}
use Rattle.words.proofs.Choice.{both_left, both_right}
use Rattle.context.specs.Layout.{is_record, fits_store}
use Rattle.context.specs.declared.Logs.{Logs}
use Rattle.context.specs.declared.Record.{Record}
use Rattle.request_table.specs.Records.{record_of, records_of, writes_of, is_command, all_records, psn_holds, numbers_hold}
use Rattle.request_table.specs.Listed.{In}
use Rattle.request_table.proofs.Listed.{all_in}
use Rattle.request_table.proofs.Laws.{own_in}
use Rattle.burst_table.specs.Bursts.{total_of}
use Rattle.words.proofs.Tests.{neither_left, neither_right}
use Rattle.slots.specs.Slots.{Held, slot, advanced, is_occupied, has_command}
use Rattle.rows.specs.Rows.{empty_row, any_slot}
use Rattle.holds.specs.Holds.{clash_records, held_against}
use Rattle.rows.proofs.Every.{at}
use Rattle.rows.proofs.Laws.{none_occupied}
use Rattle.holds.proofs.Laws.{clash_symmetric, no_writer}
use Rattle.slots.specs.declared.Slot.{Slot}
use Rattle.slots.specs.declared.Status.{Status}
use Rattle.slots.specs.declared.Status.TheVariants.{Free, Running}
use Rattle.slot_checks.specs.SlotChecks.{status_wrong}
use Rattle.possible.specs.Possible.{statuses_clash, impossible}
use Rattle.possible.proofs.Rows.{OpenRow, open_row, row_open, row_accepted, row_advanced, row_freed}
use Rattle.possible.specs.declared.Hca.{Hca}

abbrev pub Possible : Hca → List Slot → Type 0
Possible h row = impossible h row ≡ false

-- ---- open and closed

module _ (h : Hca) (row : List Slot) (o : h.«open» ≡ true) where
  pub possible_open : Possible h row → OpenRow h.logs h.store_len row
  unfolding impossible
  possible_open p = open_row h.logs h.store_len row (rw o at p)

  pub open_possible : OpenRow h.logs h.store_len row → Possible h row
  unfolding impossible
  open_possible r = rw o (row_open h.logs h.store_len row r)

module _ (h : Hca) (row : List Slot) (o : h.«open» ≡ false) where
  pub possible_closed : Possible h row → any_slot is_occupied row ≡ false
  unfolding impossible
  possible_closed p = rw o at p

  -- CLOSE_HCA: a closed state without a request
  pub closed_possible : any_slot is_occupied row ≡ false → Possible h row
  unfolding impossible
  closed_possible e = rw o e

  pub closed_free : Possible h row → (k : ℕ) → at row k ≡ slot Free
  closed_free p = none_occupied row (possible_closed p)

-- reset: every slot emptied, and closed
pub empty_possible : (h : Hca) → h.«open» ≡ false → Possible h empty_row
unfolding any_slot
empty_possible h o = closed_possible h empty_row o refl

-- ---- the operations on a slot

-- a request whose numbers hold and against which no record is held, in any slot: submission takes the lowest free one
pub accept_possible : (h : Hca) (row : List Slot) (k : ℕ) (q : Held) → h.«open» ≡ true → numbers_hold h.logs q ≡ true
    → held_against row q ≡ false → (is_command q ≡ true → any_slot has_command row ≡ false)
    → Possible h row → Possible h (set row k (slot (Running 0 q)))
accept_possible h row k q o n e c p =
    open_possible h (set row k (slot (Running 0 q))) o
    (row_accepted h.logs h.store_len row k q n e c (possible_open h row o p))

pub advance_possible : (h : Hca) (row : List Slot) (k : ℕ) → h.«open» ≡ true → Possible h row
    → Possible h (set row k (advanced (at row k)))
advance_possible h row k o p =
    open_possible h (set row k (advanced (at row k))) o
    (row_advanced h.logs h.store_len row k (possible_open h row o p))

pub free_possible : (h : Hca) (row : List Slot) (k : ℕ) → h.«open» ≡ true → Possible h row
    → Possible h (set row k (slot Free))
free_possible h row k o p =
    open_possible h (set row k (slot Free)) o (row_freed h.logs h.store_len row k (possible_open h row o p))

-- ---- the slots of an open state

-- a request whose records the store has, that of its index and all of them, and whose PSN fits
pub record Right (g : Logs) (q : Held) : Type 0 where
  pub valid : is_record g (record_of q) ≡ true
  pub all : all_records g (records_of q) ≡ true
  pub psn : psn_holds q ≡ true

pub numbers_right : (g : Logs) (q : Held) → numbers_hold g q ≡ true → Right g q
unfolding numbers_hold
numbers_right g q e =
    let all : all_records g (records_of q) ≡ true = both_left (all_records g (records_of q)) (psn_holds q) e in
    record {
      valid = all_in g (record_of q) (records_of q) all (own_in q);
      all = all;
      psn = both_right (all_records g (records_of q)) (psn_holds q) e;
    }

-- each record of a request that is right
pub right_each : (g : Logs) (q : Held) → Right g q → (X : Record) → In X (records_of q) → is_record g X ≡ true
right_each g q r X i = all_in g X (records_of q) r.all i

module _ (h : Hca) (row : List Slot) (o : h.«open» ≡ true) (p : Possible h row) where
  pub open_fits : fits_store h.logs h.store_len ≡ true
  open_fits = (possible_open h row o p).fits

  pub slot_right : (k : ℕ) → status_wrong h.logs (at row k).status ≡ false
  slot_right k = (possible_open h row o p).right k

  status_right : (k : ℕ) (s : Status) → (at row k).status ≡ s → status_wrong h.logs s ≡ false
  status_right k s e = ap (status_wrong h.logs) (sym e) ∙ slot_right k

  pub running_numbers : (k : ℕ) (q : Held) (m : ℕ) → (at row k).status ≡ Running m q → numbers_hold h.logs q ≡ true
  running_numbers k q m e =
      not-false (numbers_hold h.logs q)
      (neither_left (not (numbers_hold h.logs q)) _ (status_right k (Running m q) e))

  pub running_right : (k : ℕ) (q : Held) (m : ℕ) → (at row k).status ≡ Running m q → Right h.logs q
  running_right k q m e = numbers_right h.logs q (running_numbers k q m e)

  pub running_moved : (k : ℕ) (q : Held) (m : ℕ) → (at row k).status ≡ Running m q → m < total_of q
  running_moved k q m e =
      ltb-true m (total_of q)
      (not-false (ltb m (total_of q))
      (neither_right (not (numbers_hold h.logs q)) _ (status_right k (Running m q) e)))

  -- one command may be uncollected at a time (01, Bursts, slots and holds)
  pub one_command : (i j : ℕ) → ¬ (i ≡ j) → has_command (at row i) ≡ true → has_command (at row j) ≡ false
  one_command i j n e =
      ap (λ (b : Bool). both b (has_command (at row j))) (sym e) ∙ (possible_open h row o p).commands i j n

  -- two running requests do not clash
  pub running_apart : (i j : ℕ) → ¬ (i ≡ j) → (q : Held) (m : ℕ) (r : Held) (n : ℕ)
      → (at row i).status ≡ Running m q → (at row j).status ≡ Running n r
      → clash_records q (writes_of r) (records_of r) ≡ false
  running_apart i j d q m r n e f =
      clash_symmetric q r ∙ ap₂ statuses_clash (sym e) (sym f) ∙ (possible_open h row o p).holds i j d

  -- a record that a running writer holds is held by no other (01, Bursts, slots and holds)
  pub writer_alone : (i j : ℕ) → ¬ (i ≡ j) → (q : Held) (m : ℕ) (r : Held) (n : ℕ)
      → (at row i).status ≡ Running m q → (at row j).status ≡ Running n r
      → (X : Record) → In X (records_of q) → In X (records_of r) → writes_of q ≡ true → ⊥
  writer_alone i j d q m r n e f X a b w = no_writer r q X (running_apart i j d q m r n e f) b a (inl w)
