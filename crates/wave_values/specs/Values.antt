-- What waves show of a slot: its status, its request, the record that the index names, the names of a joined read, the bursts moved and
-- left; and how many records it holds, as a reader or as a writer (01, Bursts, slots and holds).
use Rattle.std.specs.Prelude.{◌≡◌, Bool, true, false, List, [], ◌∷◌, ℕ, ◌+◌, length}
use Rattle.std.proofs.Common.{sym, ◌∙◌, ap}
use Rattle.context.specs.declared.Record.{Record}
use Rattle.context.specs.declared.Record.TheVariants as rec
use Rattle.requests.specs.declared.EngineRequest.{EngineRequest}
use Rattle.requests.specs.declared.EngineRequest.TheVariants as engine
use Rattle.requests.specs.declared.Request.{Request}
use Rattle.requests.specs.declared.Request.TheVariants as request
use Rattle.request_table.specs.Records.{record_of, records_of, writes_of}
use Rattle.request_codes.specs.Numbers.{command_op, engine_number, index_of}
use Rattle.slots.specs.Slots.{left_of}
use Rattle.slots.specs.declared.Slot.{Slot}
use Rattle.slots.specs.declared.Status.{Status}
use Rattle.slots.specs.declared.Status.TheVariants.{Free, Running, Finished}

-- a value that no number of 32 bits is: the signal has none
abbrev pub absent : ℕ
absent = 4294967296

-- a command by its op, an engine request by 256 more than its number
abbrev pub request_code : Request → ℕ
request_code (request.Command c) = command_op c
request_code (request.Engine e) = 256 + engine_number e

abbrev pub kind_number : Record → ℕ
kind_number (rec.Qp n) = 1
kind_number (rec.Cq n) = 2
kind_number (rec.Eq n) = 3
kind_number (rec.Mpt n) = 4

abbrev pub kind_shown : Request → ℕ
kind_shown q = kind_number (record_of q)

-- ---- the names of a joined read (02, wish 2)

abbrev pub engine_cq : EngineRequest → ℕ
engine_cq (engine.ReadState n) = absent
engine_cq (engine.ReadNext n) = absent
engine_cq (engine.ReadAll n) = absent
engine_cq (engine.Write p s n x) = absent
engine_cq (engine.ReadJoined n c e) = c.0

abbrev pub engine_eq : EngineRequest → ℕ
engine_eq (engine.ReadState n) = absent
engine_eq (engine.ReadNext n) = absent
engine_eq (engine.ReadAll n) = absent
engine_eq (engine.Write p s n x) = absent
engine_eq (engine.ReadJoined n c e) = e.0

abbrev pub cq_shown : Request → ℕ
cq_shown (request.Command c) = absent
cq_shown (request.Engine e) = engine_cq e

abbrev pub eq_shown : Request → ℕ
eq_shown (request.Command c) = absent
eq_shown (request.Engine e) = engine_eq e

-- ---- a slot

abbrev pub occupied_values : ℕ → Request → ℕ → ℕ → List ℕ
occupied_values code q moved left =
    code ∷ request_code q ∷ kind_shown q ∷ index_of q ∷ cq_shown q ∷ eq_shown q ∷ moved ∷ left ∷ []

abbrev pub free_values : List ℕ
free_values = 0 ∷ 0 ∷ 0 ∷ absent ∷ absent ∷ absent ∷ absent ∷ absent ∷ []

abbrev pub status_values : ℕ → Status → List ℕ
status_values left Free = free_values
status_values left (Running m q) = occupied_values 1 q m left
status_values left (Finished m q) = occupied_values 2 q m left

abbrev pub slot_values : Slot → List ℕ
slot_values s = status_values (left_of s) s.status

-- ---- holds: those of a running request, which is a reader or a writer of all its records

abbrev pub same_as : Bool → Bool → ℕ → ℕ
same_as true true n = n
same_as true false n = 0
same_as false true n = 0
same_as false false n = n

abbrev pub records_held : Request → Bool → ℕ
records_held q writes = same_as (writes_of q) writes (length (records_of q))

abbrev pub held_status : Status → Bool → ℕ
held_status Free writes = 0
held_status (Running m q) writes = records_held q writes
held_status (Finished m q) writes = 0

abbrev pub held_by : Slot → Bool → ℕ
held_by s writes = held_status s.status writes

-- ---- as the code has them: a slot's status, and its bursts left

pub running_values : (s : Slot) (m : ℕ) (q : Request) (l : ℕ) (r : List ℕ) → s.status ≡ Running m q → l ≡ left_of s
    → r ≡ occupied_values 1 q m l → r ≡ slot_values s
running_values s m q l r e f i = i ∙ ap (occupied_values 1 q m) f ∙ ap (status_values (left_of s)) (sym e)

pub finished_values : (s : Slot) (m : ℕ) (q : Request) (l : ℕ) (r : List ℕ) → s.status ≡ Finished m q → l ≡ left_of s
    → r ≡ occupied_values 2 q m l → r ≡ slot_values s
finished_values s m q l r e f i = i ∙ ap (occupied_values 2 q m) f ∙ ap (status_values (left_of s)) (sym e)

pub running_held : (s : Slot) (m : ℕ) (q : Request) (writes : Bool) (r : ℕ) → s.status ≡ Running m q → r ≡ records_held q writes
    → r ≡ held_by s writes
running_held s m q writes r e i = i ∙ ap (λ (t : Status). held_status t writes) (sym e)
