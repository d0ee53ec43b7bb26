-- The burst table keeps to the records: by shape, the bursts of every request fit its records and the slot's part of the room, none comes
-- twice, and there is one at least.
use Rattle.std.specs.Prelude.{◌≡◌, refl, true, List, [], ◌∷◌, ℕ, ◌+◌, ◌*◌, ◌/◌, ◌≤◌, ◌<◌, length, get_or}
use Rattle.std.proofs.Common.{sym, ◌∙◌, ap, subst, add-zero, zero-add, arith, lit≤}
use Rattle.context.specs.Layout.{size_of, record_size}
use Rattle.context.specs.declared.Kind.TheVariants as kind
use Rattle.context.specs.declared.Record.{Record}
use Rattle.context.specs.declared.Record.TheVariants as rec
use Rattle.requests.specs.declared.Owned.{Owned}
use Rattle.requests.specs.declared.Owned.TheVariants as owned
use Rattle.requests.specs.declared.PsnField.{PsnField}
use Rattle.requests.specs.declared.PsnField.TheVariants.{NextSend, LastAcked, Expected}
use Rattle.requests.specs.declared.Command.{Command}
use Rattle.requests.specs.declared.Command.TheVariants as command
use Rattle.requests.specs.declared.EngineRequest.{EngineRequest}
use Rattle.requests.specs.declared.EngineRequest.TheVariants as engine
use Rattle.requests.specs.declared.Request.{Request}
use Rattle.requests.specs.declared.Request.TheVariants as request
use Rattle.request_table.specs.Records.{owned_record, record_of, records_of, writes_of}
use Rattle.mailboxes.specs.Mailboxes.{need_of}
use Rattle.request_table.proofs.Laws.{record_small, write_one, need_record}
use Rattle.burst_table.specs.Sizes.{burst_size, slot_room}
use Rattle.burst_table.specs.Bursts.{psn_place, joined_size, burst_count, Shape, whole, state_only, state_and_psn}
use Rattle.burst_table.specs.Bursts.{engine_shape, shape_of, bursts_by, bursts_of, command_bursts, engine_bursts, total_of, offset_of}
use Rattle.burst_table.proofs.Touched.{Fit, Distinct, fit_more, fit_at, length_row, at_burst, row_fit, row_once}

-- ---- records and their bursts

-- a record is a number of bursts
pub size_bursts : (X : Record) → burst_size * (record_size X / burst_size) ≡ record_size X
size_bursts (rec.Qp n) = refl
size_bursts (rec.Cq n) = refl
size_bursts (rec.Eq n) = refl
size_bursts (rec.Mpt n) = refl

pub count_bursts : (Xs : List Record) → burst_size * burst_count Xs ≡ joined_size Xs
count_bursts [] = refl
count_bursts (X ∷ Xs) = omega (arith, size_bursts X, count_bursts Xs)

-- ---- by shape

psn_fit : (p : PsnField) → Fit (size_of kind.Qp) (bursts_by (state_and_psn p) [])
psn_fit NextSend = (lit≤ tt, (lit≤ tt, tt))
psn_fit LastAcked = (lit≤ tt, (lit≤ tt, tt))
psn_fit Expected = (lit≤ tt, (lit≤ tt, tt))

psn_once : (p : PsnField) → Distinct (bursts_by (state_and_psn p) [])
psn_once NextSend = (((λ e. omega (arith, e)), tt), (tt, tt))
psn_once LastAcked = (((λ e. omega (arith, e)), tt), (tt, tt))
psn_once Expected = (((λ e. omega (arith, e)), tt), (tt, tt))

-- the bytes that a shape asks for: state and PSN stand in a queue pair's record
abbrev least_of : Shape → ℕ
least_of whole = 0
least_of state_only = burst_size
least_of (state_and_psn p) = size_of kind.Qp

fit_by : (s : Shape) (Xs : List Record) → least_of s ≤ joined_size Xs → Fit (joined_size Xs) (bursts_by s Xs)
fit_by whole Xs h = row_fit 0 (burst_count Xs) (joined_size Xs) (omega (arith, count_bursts Xs))
fit_by state_only Xs h = (h, tt)
fit_by (state_and_psn p) Xs h = fit_more (size_of kind.Qp) (joined_size Xs) (bursts_by (state_and_psn p) []) h (psn_fit p)

once_by : (s : Shape) (Xs : List Record) → Distinct (bursts_by s Xs)
once_by whole Xs = row_once 0 (burst_count Xs)
once_by state_only Xs = (tt, tt)
once_by (state_and_psn p) Xs = psn_once p

-- every burst but the first lies behind the state's
later_by : (s : Shape) (Xs : List Record) (m : ℕ) → m < length (bursts_by s Xs) → 0 < m → 0 < get_or (bursts_by s Xs) m 0
later_by whole Xs m h k = omega (arith, at_burst 0 (burst_count Xs) m (omega (arith, length_row 0 (burst_count Xs))))
later_by state_only Xs m h k = absurd (omega arith)
later_by (state_and_psn p) Xs m h k = let e : m ≡ 1 = omega arith in rw e (psn_later p)
  where
    psn_later : (p : PsnField) → 0 < psn_place p / burst_size
    psn_later NextSend = lit≤ tt
    psn_later LastAcked = lit≤ tt
    psn_later Expected = lit≤ tt

-- ---- for every request

engine_least : (e : EngineRequest) → least_of (shape_of (request.Engine e)) ≤ joined_size (records_of (request.Engine e))
engine_least (engine.ReadState n) = lit≤ tt
engine_least (engine.ReadNext n) = lit≤ tt
engine_least (engine.ReadAll n) = lit≤ tt
engine_least (engine.Write p s n psn) = lit≤ tt
engine_least (engine.ReadJoined n c e) = lit≤ tt

shape_least : (q : Request) → least_of (shape_of q) ≤ joined_size (records_of q)
shape_least (request.Command c) = omega arith
shape_least (request.Engine e) = engine_least e

-- the bursts fit the records
pub bursts_joined : (q : Request) → Fit (joined_size (records_of q)) (bursts_of q)
bursts_joined q = fit_by (shape_of q) (records_of q) (shape_least q)

-- those of a write, which has one record, fit that
pub bursts_fit : (q : Request) → writes_of q ≡ true → Fit (record_size (record_of q)) (bursts_of q)
bursts_fit q w =
    subst (λ (n : ℕ). Fit n (bursts_of q)) (ap joined_size (write_one q w) ∙ add-zero (record_size (record_of q))) (bursts_joined q)

-- no burst comes twice
pub bursts_once : (q : Request) → Distinct (bursts_of q)
bursts_once q = once_by (shape_of q) (records_of q)

pub bursts_later : (q : Request) (m : ℕ) → m < total_of q → 0 < m → 0 < get_or (bursts_of q) m 0
bursts_later q = later_by (shape_of q) (records_of q)

-- ---- the slot's part of the room is large enough

engine_room : (e : EngineRequest) → joined_size (records_of (request.Engine e)) ≤ slot_room
engine_room (engine.ReadState n) = lit≤ tt
engine_room (engine.ReadNext n) = lit≤ tt
engine_room (engine.ReadAll n) = lit≤ tt
engine_room (engine.Write p s n psn) = lit≤ tt
engine_room (engine.ReadJoined n c e) = lit≤ tt

pub records_room : (q : Request) → joined_size (records_of q) ≤ slot_room
records_room (request.Command c) = omega (arith, record_small (request.Command c))
records_room (request.Engine e) = engine_room e

pub need_small : (q : Request) → need_of q ≤ slot_room
need_small q = omega (arith, need_record q, record_small q)

pub bursts_room : (q : Request) → Fit slot_room (bursts_of q)
bursts_room q = fit_more (joined_size (records_of q)) slot_room (bursts_of q) (records_room q) (bursts_joined q)

-- ---- total and offset, by the list of bursts

pub total_bursts : (q : Request) → total_of q ≡ length (bursts_of q)
total_bursts q = refl

pub offset_burst : (q : Request) (m : ℕ) → offset_of q m ≡ burst_size * get_or (bursts_of q) m 0
offset_burst q m = omega arith

-- every burst lies in the records, and so in the slot's part of the room; that of a write in its one record
pub offset_joined : (q : Request) (m : ℕ) → m < total_of q → offset_of q m + burst_size ≤ joined_size (records_of q)
offset_joined q m h = omega (arith, fit_at (joined_size (records_of q)) (bursts_of q) m (bursts_joined q) h)

pub offset_room : (q : Request) (m : ℕ) → m < total_of q → offset_of q m + burst_size ≤ slot_room
offset_room q m h = omega (arith, offset_joined q m h, records_room q)

pub offset_small : (q : Request) → writes_of q ≡ true → (m : ℕ) → m < total_of q → offset_of q m + burst_size ≤ record_size (record_of q)
offset_small q w m h = omega (arith, fit_at (record_size (record_of q)) (bursts_of q) m (bursts_fit q w) h)

-- ---- what the code answers

-- a record that has an owner has four bursts
owned_total : (o : Owned) → 4 ≡ length (bursts_by whole (owned_record o ∷ []))
owned_total (owned.Mpt n) = refl
owned_total (owned.Eq n) = refl
owned_total (owned.Cq n) = refl

pub sw2hw_total : (c : Command) (o : Owned) → c ≡ command.Sw2Hw o → 4 ≡ length (command_bursts c)
sw2hw_total c o e = rw e (owned_total o)

pub hw2sw_total : (c : Command) (o : Owned) → c ≡ command.Hw2Sw o → 4 ≡ length (command_bursts c)
hw2sw_total c o e = rw e (owned_total o)

-- burst m of all bursts starts at m bursts
whole_offset : (Xs : List Record) (m : ℕ) → m < length (bursts_by whole Xs)
    → m * burst_size ≡ get_or (bursts_by whole Xs) m 0 * burst_size
whole_offset Xs m h =
    ap (λ (k : ℕ). k * burst_size) (sym (at_burst 0 (burst_count Xs) m (omega (arith, length_row 0 (burst_count Xs))) ∙ zero-add m))

pub command_offset : (q : Request) (c : Command) (m r : ℕ) → q ≡ request.Command c → m < total_of q → r ≡ m * burst_size
    → r ≡ offset_of q m
command_offset q c m r e h f =
    let h' : m < total_of (request.Command c) = rw e at h in
    f ∙ whole_offset (records_of (request.Command c)) m h' ∙ sym (ap (λ (x : Request). offset_of x m) e)

pub all_offset : (e f : EngineRequest) (m r : ℕ) → e ≡ f → engine_shape f ≡ whole → m < length (engine_bursts e) → r ≡ m * burst_size
    → r ≡ get_or (engine_bursts e) m 0 * burst_size
all_offset e f m r i s h g =
    let b : engine_bursts e ≡ bursts_by whole (records_of (request.Engine e)) =
    ap (λ (x : Shape). bursts_by x (records_of (request.Engine e))) (ap engine_shape i ∙ s) in
    let h' : m < length (bursts_by whole (records_of (request.Engine e))) = subst (λ (l : List ℕ). m < length l) b h in
    g ∙ whole_offset (records_of (request.Engine e)) m h' ∙ sym (ap (λ (l : List ℕ). get_or l m 0 * burst_size) b)

pub psn_first : (p : PsnField) (m : ℕ) → m ≡ 0 → 0 ≡ get_or (bursts_by (state_and_psn p) []) m 0 * burst_size
psn_first p m e = rw e

pub psn_second : (p : PsnField) (m : ℕ) → m < 2 → (m ≡ 0 → ⊥)
    → psn_place p / burst_size * burst_size ≡ get_or (bursts_by (state_and_psn p) []) m 0 * burst_size
psn_second p m h n = let e : m ≡ 1 = omega arith in rw e

pub state_offset : (m : ℕ) → m < 1 → 0 ≡ get_or (bursts_by state_only []) m 0 * burst_size
state_offset m h = let e : m ≡ 0 = omega arith in rw e
