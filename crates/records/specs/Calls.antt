-- What the code asks of the memory and the room that it is lent, and what its calls leave.
use Rattle.std.specs.Prelude.{◌≡◌, refl, true, ℕ, ◌+◌, ◌-◌, ◌*◌, ◌%◌, ◌≤◌, ◌<◌, length, replicate, Result}
use Rattle.std.proofs.Common.{sym, ◌∙◌, subst}
use Rattle.std.proofs.Math.Path.{ap}
use mathlib.Core.List.{List, [], ◌∷◌}
use native.Mathlib.Omega.{arith}
use borrow.Author.Tests.{lt-ltb, le-ltb}
use Rattle.words.specs.Parts.{part, splice}
use Rattle.context.specs.Layout.{is_record, record_at, record_size, bytes_of, in_use, ranges_hold}
use Rattle.context.proofs.Records.{record_inside, record_small}
use Rattle.context.specs.declared.CqNumber.{CqNumber}
use Rattle.context.specs.declared.EqNumber.{EqNumber}
use Rattle.context.specs.declared.Logs.{Logs}
use Rattle.context.specs.declared.QpNumber.{QpNumber}
use Rattle.context.specs.declared.Record.{Record}
use Rattle.context.specs.declared.Record.TheVariants as rec
use Rattle.requests.specs.declared.EngineRequest.TheVariants as engine
use Rattle.requests.specs.declared.Request.{Request}
use Rattle.requests.specs.declared.Request.TheVariants as request
use Rattle.request_table.specs.Records.{list_of, holds_of, record_of, records_of, writes_of}
use Rattle.request_table.specs.declared.Records.{Records}
use Rattle.request_table.specs.declared.Records.TheVariants as records
use Rattle.mailboxes.specs.Mailboxes.{need_of}
use Rattle.burst_table.specs.Sizes.{burst_size, slot_count, slot_room, room_size, slot_start}
use Rattle.burst_table.specs.Bursts.{joined_size, total_of, offset_of}
use Rattle.burst_table.proofs.Laws.{offset_joined, offset_small, offset_room, need_small, all_offset}
use Rattle.checks.specs.Permission.{permission_of}
use Rattle.checks.specs.declared.Denial.{Denial}
use Rattle.bursts.specs.Moves.{write_at, copy_at}
use Rattle.bursts.specs.Room.{front_of, room_copied}
use Rattle.records.specs.Memory.{memory, record_in, AllRecords, Fits, place_in, burst_place, written, read_out, permission_in, zeroed}
use Rattle.records.specs.Laws.{read_place, read_inside}

-- the memory has the request's record
pub record Stored (g : Logs) (store : List ℕ) (q : Request) : Type 0 where
  pub ranges : ranges_hold g ≡ true
  pub valid : is_record g (record_of q) ≡ true
  pub fits : Fits g (memory store)

-- burst m of slot k's request can be moved
pub record Moving (g : Logs) (store room : List ℕ) (k : ℕ) (q : Request) (m : ℕ) : Type 0 where
  pub stored : Stored g store q
  pub all : AllRecords g (records_of q)
  pub more : m < total_of q
  pub below : k < slot_count
  pub roomed : room_size ≤ length room

-- the requests that read all of a queue pair's record, and all of three records, whose burst m stands at m bursts
abbrev pub qp_read : QpNumber → Request
qp_read n = request.Engine (engine.ReadAll n)

abbrev pub joined_read : QpNumber → CqNumber → EqNumber → Request
joined_read n c e = request.Engine (engine.ReadJoined n c e)

module _ {g : Logs} {store room : List ℕ} {k m : ℕ} {n : QpNumber} where
  pub qp_offset : Moving g store room k (qp_read n) m → m * burst_size ≡ offset_of (qp_read n) m
  qp_offset moving = all_offset (engine.ReadAll n) (engine.ReadAll n) m _ refl refl moving.more refl

  pub joined_offset : {c : CqNumber} {e : EqNumber} → Moving g store room k (joined_read n c e) m
      → m * burst_size ≡ offset_of (joined_read n c e) m
  joined_offset {c = c} {e = e} moving =
      all_offset (engine.ReadJoined n c e) (engine.ReadJoined n c e) m _ refl refl moving.more refl

-- ---- what the leaves ask

module _ (g : Logs) (store room : List ℕ) (k : ℕ) (q : Request) (m : ℕ) (moving : Moving g store room k q m) (first : ℕ)
    (offset-is : first ≡ offset_of q m) where
  pub first_room : first + burst_size ≤ slot_room
  first_room = omega (arith, offset_room q m moving.more)

  pub first_joined : first + burst_size ≤ joined_size (records_of q)
  first_joined = omega (arith, offset_joined q m moving.more)

  -- a burst starts at a number of bursts
  pub first_aligned : first % burst_size ≡ 0
  first_aligned = omega (arith, offset-is)

  pub front_inside : (base : ℕ) → base ≡ slot_start k → base + need_of q ≤ length room
  front_inside base base-is = omega (arith, need_small q, moving.below, moving.roomed)

  -- ---- of a write

  module _ (writes : writes_of q ≡ true) (place : ℕ) (place_is : place ≡ record_at g (record_of q)) where
    pub place_small : place + first ≤ 9439232
    place_small =
        omega (arith, record_small g (record_of q) moving.stored.ranges moving.stored.valid, offset_small q writes m moving.more)

    pub burst_inside : place + first + burst_size ≤ length store
    burst_inside =
        omega (arith, offset_small q writes m moving.more, record_inside g (record_of q) moving.stored.valid, moving.stored.fits)

    -- what a moved burst leaves
    pub write_leaves : (base : ℕ) → base ≡ slot_start k → (out : List ℕ)
        → out ≡ write_at q (part base (need_of q) room) (place + first) first store
        → memory out ≡ written g (memory store) q (front_of k q room) m
    unfolding written front_of burst_place
    write_leaves base base-is out z = ap memory (z ∙ rw (place_is, offset-is, base-is))

  -- ---- of a read

  module _ (from : ℕ) (from_is : from ≡ place_in g (records_of q) first) where
    read_stored : from + burst_size ≤ length store
    read_stored =
        omega (arith, rw offset-is at from_is, read_inside g (memory store) q m moving.all moving.more, moving.stored.fits)

    pub copy_asks : (from + burst_size ≤ length store) × ((k < slot_count) × (slot_start k + first + burst_size ≤ length room))
    copy_asks = (read_stored, (moving.below, omega (arith, offset_room q m moving.more, moving.below, moving.roomed)))

    pub read_leaves : (out : List ℕ) → out ≡ copy_at from store (slot_start k + first) room
        → out ≡ room_copied k (offset_of q m) (read_out g (memory store) q m) room
    unfolding room_copied copy_at
    read_leaves out z =
        z
        ∙ rw (from_is, offset-is)
        (ap (λ (ys : List ℕ). splice (slot_start k + offset_of q m) ys room)
        (sym (read_place g (memory store) q m moving.stored.fits moving.all moving.more)))

-- ---- where a burst of some records stands

-- in some records, as the code has them: one, or three
module _ (g : Logs) (H : Records) (X : Record) (is : H ≡ records.One X) where
  pub one_all : AllRecords g (list_of H) → is_record g X ≡ true
  one_all all = (subst (λ (h : Records). AllRecords g (list_of h)) is all).0

pub one_first : (H : Records) (X : Record) (first : ℕ) → H ≡ records.One X → first + burst_size ≤ joined_size (list_of H)
    → first + burst_size ≤ record_size X
one_first H X first is h =
    let k : first + burst_size ≤ record_size X + 0 = subst (λ (h : Records). first + burst_size ≤ joined_size (list_of h)) is h in omega arith

pub one_small : (g : Logs) (H : Records) (X : Record) (at first : ℕ) → H ≡ records.One X → ranges_hold g ≡ true → AllRecords g (list_of H)
    → at ≡ record_at g X → first + burst_size ≤ joined_size (list_of H) → at + first ≤ 9439232
one_small g H X at first is ranges all e h = omega (arith, record_small g X ranges (one_all g H X is all), one_first H X first is h)

pub three_all : (g : Logs) (H : Records) (n : QpNumber) (c : CqNumber) (e : EqNumber) → H ≡ records.Three n c e → AllRecords g (list_of H)
    → AllRecords g (list_of (records.Three n c e))
three_all g H n c e is all = subst (λ (h : Records). AllRecords g (list_of h)) is all

pub three_first : (H : Records) (n : QpNumber) (c : CqNumber) (e : EqNumber) (first : ℕ) → H ≡ records.Three n c e
    → first + burst_size ≤ joined_size (list_of H) → first < 384
three_first H n c e first is h =
    let k : first + burst_size ≤ 384 = subst (λ (h : Records). first + burst_size ≤ joined_size (list_of h)) is h in omega arith

-- as the calls answered it
pub place_told : (g : Logs) (q : Request) (H : Records) (first from : ℕ) → H ≡ holds_of q → from ≡ place_in g (list_of H) first
    → from ≡ place_in g (records_of q) first
place_told g q H first from e f = f ∙ ap (λ (h : Records). place_in g (list_of h) first) e

-- in one record
pub one_place : (g : Logs) (X : Record) (first at : ℕ) → at ≡ record_at g X → first + burst_size ≤ record_size X
    → at + first ≡ place_in g (X ∷ []) first
unfolding place_in
one_place g X first at e h = rw (lt-ltb first (record_size X) (omega arith), e)

-- in the one that is read whole
module _ {g : Logs} {store room : List ℕ} {k m : ℕ} {n : QpNumber} (moving : Moving g store room k (qp_read n) m) (at : ℕ)
    (is : at ≡ record_at g (rec.Qp n)) where
  burst_in : m * burst_size + burst_size ≤ record_size (rec.Qp n)
  burst_in = omega (arith, first_joined g store room k (qp_read n) m moving (m * burst_size) (qp_offset moving))

  pub qp_small : at + m * burst_size ≤ 9439232
  qp_small = omega (arith, record_small g (rec.Qp n) moving.stored.ranges moving.stored.valid, burst_in)

  pub qp_from : at + m * burst_size ≡ place_in g (records_of (qp_read n)) (m * burst_size)
  qp_from = one_place g (rec.Qp n) (m * burst_size) at is burst_in

-- in the first, the second or the third of three
module _ (g : Logs) (n : QpNumber) (c : CqNumber) (e : EqNumber) (first at : ℕ) where
  pub qp_place : at ≡ record_at g (rec.Qp n) → first < 256 → at + first ≡ place_in g (list_of (records.Three n c e)) first
  unfolding place_in
  qp_place i h = rw (lt-ltb first 256 h, i)

  pub cq_place : at ≡ record_at g (rec.Cq c) → 256 ≤ first → first < 320
      → at + (first - 256) ≡ place_in g (list_of (records.Three n c e)) first
  unfolding place_in
  cq_place i h k = rw (le-ltb first 256 h, lt-ltb (first - 256) 64 (omega arith), i)

  pub eq_place : at ≡ record_at g (rec.Eq e) → 320 ≤ first → first < 384
      → at + (first - 320) ≡ place_in g (list_of (records.Three n c e)) first
  unfolding place_in
  eq_place i h k =
      let s : first - 256 - 64 ≡ first - 320 = omega arith in
      rw (le-ltb first 256 (omega arith), le-ltb (first - 256) 64 (omega arith), s, lt-ltb (first - 320) 64 (omega arith), i)

-- ---- a record judged, and all of them made zero

pub record_here : (g : Logs) (store : List ℕ) (q : Request) (at : ℕ) → Stored g store q → at ≡ record_at g (record_of q)
    → at + record_size (record_of q) ≤ length store
record_here g store q at s e = omega (arith, record_inside g (record_of q) s.valid, s.fits)

pub judged_here : (g : Logs) (store : List ℕ) (q : Request) (at : ℕ) (r : Result (Unit {0}) Denial) → at ≡ record_at g (record_of q)
    → r ≡ permission_of q (part at (record_size (record_of q)) store) → r ≡ permission_in g (memory store) q
unfolding permission_in record_in bytes_of
judged_here g store q at r e f = f ∙ ap (λ (i : ℕ). permission_of q (part i (record_size (record_of q)) store)) e

pub zero_leaves : (g : Logs) (store out : List ℕ) (n : ℕ) → n ≡ in_use g → out ≡ splice 0 (replicate n 0) store
    → memory out ≡ zeroed g (memory store)
unfolding zeroed
zero_leaves g store out n e f = ap memory (f ∙ ap (λ (i : ℕ). splice 0 (replicate i 0) store) e)
