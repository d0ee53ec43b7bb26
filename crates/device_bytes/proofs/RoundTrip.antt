-- What is encoded decodes to the same.
use Rattle.std.specs.Prelude.{◌≡◌, refl, Bool, true, false, List, ◌++◌, ℕ, ◌+◌, ◌*◌, ◌/◌, ◌%◌, ◌^◌, ◌<◌, eqb, length, Option, Some, None}
use Rattle.std.proofs.Common.{◌∙◌, ltb-true, leb-true, lit<}
use Rattle.std.proofs.Math.Path.{ap}
use native.Mathlib.Omega.{arith}
use Rattle.words.specs.Choice.{pick}
use Rattle.words.proofs.Choice.{both_left, both_right}
use Rattle.words.specs.Parts.{part}
use Rattle.words.specs.Words.{le32, le_value, le_bytes}
use Rattle.words.proofs.Words.{le_round}
use Rattle.hcr.specs.Register.{bit}
use Rattle.context.specs.Layout.{is_record, number_of}
use Rattle.context.specs.declared.Record.{Record}
use Rattle.context.specs.declared.Record.TheVariants as rec
use Rattle.edges.specs.declared.State.TheVariants.{Reset, Init, Rtr, Rts, Sqe, Sqd, Err}
use Rattle.edges.specs.declared.Edge.TheVariants.{ResetToInit, InitToInit, InitToRtr, RtrToRts, RtsToRts, SqeToRts}
use Rattle.edges.specs.declared.Edge.TheVariants.{RtsToSqd, SqdToSqd, SqdToRts, ToErr, ToReset}
use Rattle.requests.specs.declared.Owned.TheVariants as owned
use Rattle.requests.specs.declared.Command.{Command}
use Rattle.requests.specs.declared.Command.TheVariants as command
use Rattle.requests.specs.declared.PsnField.TheVariants.{NextSend, LastAcked, Expected}
use Rattle.requests.specs.declared.EngineRequest.{EngineRequest}
use Rattle.requests.specs.declared.EngineRequest.TheVariants as engine
use Rattle.requests.specs.declared.Request.TheVariants as request
use Rattle.requests.specs.declared.Request.{Request}
use Rattle.commands.specs.Commands.{read_op, read_command}
use Rattle.engines.specs.Engines.{read_number, read_engine, state_from}
use Rattle.request_table.specs.Records.{command_record, engine_record, record_of, records_of, all_records, engine_psn_holds, psn_holds, numbers_hold}
use Rattle.request_codes.specs.Numbers.{command_op, engine_number}
use Rattle.slot_requests.specs.Requests.{any_index, command_in}
use Rattle.slots.specs.Slots.{Held, slot}
use Rattle.slots.specs.declared.Slot.{Slot}
use Rattle.slots.specs.declared.Status.{Status}
use Rattle.slots.specs.declared.Status.TheVariants.{Free, Running, Finished}
use Rattle.possible.specs.declared.Hca.{Hca}
use Rattle.device_bytes.specs.Decoding.{number_held, op_field, request_in, status_of, hca_of}
use Rattle.device_bytes.specs.Encoding.{command_modifier, named_cq, named_eq, psn_in, state_in, slot_bytes, request_bytes, status_bytes}
use Rattle.device_bytes.specs.Encoding.{header_bytes, hca_bytes}

-- ---- the fields

-- the request that a slot's fields give
abbrev request_from : ℕ → ℕ → ℕ → ℕ → ℕ → ℕ → ℕ → ℕ → Option Request
request_from kind modifier op n cq eq psn state =
    pick (eqb kind 0) (command_in op modifier n) (pick (eqb kind 1) (number_held n cq eq psn state (read_number op)) None)

module _ (code kind m modifier op n cq eq psn state : ℕ) where
  bytes : List ℕ
  bytes = slot_bytes code kind m modifier op n cq eq psn state

  index_read : n < 2 ^ 32 → le32 8 bytes ≡ n
  unfolding bytes le32 part slot_bytes le_bytes
  index_read h = le_round 4 n h

  cq_read : cq < 2 ^ 32 → le32 12 bytes ≡ cq
  unfolding bytes le32 part slot_bytes le_bytes
  cq_read h = le_round 4 cq h

  eq_read : eq < 2 ^ 32 → le32 16 bytes ≡ eq
  unfolding bytes le32 part slot_bytes le_bytes
  eq_read h = le_round 4 eq h

  psn_read : psn < 2 ^ 32 → le32 20 bytes ≡ psn
  unfolding bytes le32 part slot_bytes le_bytes
  psn_read h = le_round 4 psn h

  fields_read : n < 2 ^ 32 → cq < 2 ^ 32 → eq < 2 ^ 32 → psn < 2 ^ 32
      → request_in (slot_bytes code kind m modifier op n cq eq psn state) ≡ request_from kind modifier op n cq eq psn state
  unfolding request_in bytes slot_bytes le_bytes
  fields_read h i j k =
      let e : op + 256 * 0 ≡ op = omega arith in
      ap (λ (x : ℕ). request_from kind modifier (op + 256 * 0) x (le32 12 bytes) (le32 16 bytes) (le32 20 bytes) state) (index_read h)
      ∙ ap (λ (x : ℕ). request_from kind modifier (op + 256 * 0) n x (le32 16 bytes) (le32 20 bytes) state) (cq_read i)
      ∙ ap (λ (x : ℕ). request_from kind modifier (op + 256 * 0) n cq x (le32 20 bytes) state) (eq_read j)
      ∙ ap (λ (x : ℕ). request_from kind modifier (op + 256 * 0) n cq eq x state) (psn_read k)
      ∙ ap (λ (x : ℕ). request_from kind modifier x n cq eq psn state) e

-- ---- requests

command_in_lem : (c : Command) → is_record any_index (command_record c) ≡ true
    → command_in (command_op c) (command_modifier c) (number_of (command_record c)) ≡ Some (request.Command c)
unfolding is_record read_op read_command
command_in_lem (command.Sw2Hw (owned.Mpt n)) f = rw f
command_in_lem (command.Sw2Hw (owned.Eq n)) f = rw f
command_in_lem (command.Sw2Hw (owned.Cq n)) f = rw f
command_in_lem (command.Hw2Sw (owned.Mpt n)) f = rw f
command_in_lem (command.Hw2Sw (owned.Eq n)) f = rw f
command_in_lem (command.Hw2Sw (owned.Cq n)) f = rw f
command_in_lem (command.ResizeCq n) f = rw f
command_in_lem (command.QueryQp n) f = rw f
command_in_lem (command.ModifyQp ResetToInit n) f = rw f
command_in_lem (command.ModifyQp InitToInit n) f = rw f
command_in_lem (command.ModifyQp InitToRtr n) f = rw f
command_in_lem (command.ModifyQp RtrToRts n) f = rw f
command_in_lem (command.ModifyQp RtsToRts n) f = rw f
command_in_lem (command.ModifyQp SqeToRts n) f = rw f
command_in_lem (command.ModifyQp RtsToSqd n) f = rw f
command_in_lem (command.ModifyQp SqdToSqd n) f = rw f
command_in_lem (command.ModifyQp SqdToRts n) f = rw f
command_in_lem (command.ModifyQp ToErr n) f = rw f
command_in_lem (command.ModifyQp ToReset n) f = rw f

abbrev engine_in : EngineRequest → Option Request
engine_in q = number_held (number_of (engine_record q)) (named_cq q) (named_eq q) (psn_in q) (state_in q) (read_number (engine_number q))

engine_in_lem : (q : EngineRequest) → is_record any_index (engine_record q) ≡ true → engine_psn_holds q ≡ true
    → engine_in q ≡ Some (request.Engine q)
unfolding is_record read_number read_engine state_from
engine_in_lem (engine.ReadState n) f g = rw f
engine_in_lem (engine.ReadNext n) f g = rw f
engine_in_lem (engine.ReadAll n) f g = rw f
engine_in_lem (engine.ReadJoined n c e) f g = rw f
engine_in_lem (engine.Write NextSend Reset n psn) f g = rw (f, g)
engine_in_lem (engine.Write NextSend Init n psn) f g = rw (f, g)
engine_in_lem (engine.Write NextSend Rtr n psn) f g = rw (f, g)
engine_in_lem (engine.Write NextSend Rts n psn) f g = rw (f, g)
engine_in_lem (engine.Write NextSend Sqe n psn) f g = rw (f, g)
engine_in_lem (engine.Write NextSend Sqd n psn) f g = rw (f, g)
engine_in_lem (engine.Write NextSend Err n psn) f g = rw (f, g)
engine_in_lem (engine.Write LastAcked Reset n psn) f g = rw (f, g)
engine_in_lem (engine.Write LastAcked Init n psn) f g = rw (f, g)
engine_in_lem (engine.Write LastAcked Rtr n psn) f g = rw (f, g)
engine_in_lem (engine.Write LastAcked Rts n psn) f g = rw (f, g)
engine_in_lem (engine.Write LastAcked Sqe n psn) f g = rw (f, g)
engine_in_lem (engine.Write LastAcked Sqd n psn) f g = rw (f, g)
engine_in_lem (engine.Write LastAcked Err n psn) f g = rw (f, g)
engine_in_lem (engine.Write Expected Reset n psn) f g = rw (f, g)
engine_in_lem (engine.Write Expected Init n psn) f g = rw (f, g)
engine_in_lem (engine.Write Expected Rtr n psn) f g = rw (f, g)
engine_in_lem (engine.Write Expected Rts n psn) f g = rw (f, g)
engine_in_lem (engine.Write Expected Sqe n psn) f g = rw (f, g)
engine_in_lem (engine.Write Expected Sqd n psn) f g = rw (f, g)
engine_in_lem (engine.Write Expected Err n psn) f g = rw (f, g)

-- every number of a request that is one of 32 bits
number_small : (r : Record) → is_record any_index r ≡ true → number_of r < 2 ^ 32
unfolding is_record
number_small (rec.Qp n) e = ltb-true n.0 (2 ^ 32) e
number_small (rec.Cq n) e = ltb-true n.0 (2 ^ 32) e
number_small (rec.Eq n) e = ltb-true n.0 (2 ^ 32) e
number_small (rec.Mpt n) e = ltb-true n.0 (2 ^ 32) e

cq_small : (q : EngineRequest) → all_records any_index (records_of (request.Engine q)) ≡ true → named_cq q < 2 ^ 32
cq_small (engine.ReadState n) h = lit< tt
cq_small (engine.ReadNext n) h = lit< tt
cq_small (engine.ReadAll n) h = lit< tt
cq_small (engine.Write p s n psn) h = lit< tt
cq_small (engine.ReadJoined n c e) h =
    number_small (rec.Cq c) (both_left (is_record any_index (rec.Cq c)) _ (both_right (is_record any_index (rec.Qp n)) _ h))

eq_small : (q : EngineRequest) → all_records any_index (records_of (request.Engine q)) ≡ true → named_eq q < 2 ^ 32
eq_small (engine.ReadState n) h = lit< tt
eq_small (engine.ReadNext n) h = lit< tt
eq_small (engine.ReadAll n) h = lit< tt
eq_small (engine.Write p s n psn) h = lit< tt
eq_small (engine.ReadJoined n c e) h =
    number_small (rec.Eq e) (both_left (is_record any_index (rec.Eq e)) true
    (both_right (is_record any_index (rec.Cq c)) _ (both_right (is_record any_index (rec.Qp n)) _ h)))

psn_small : (q : EngineRequest) → engine_psn_holds q ≡ true → psn_in q < 2 ^ 32
psn_small (engine.ReadState n) g = lit< tt
psn_small (engine.ReadNext n) g = lit< tt
psn_small (engine.ReadAll n) g = lit< tt
psn_small (engine.Write p s n psn) g = omega (arith, leb-true psn 0xffffff g)
psn_small (engine.ReadJoined n c e) g = lit< tt

first_record : (q : EngineRequest) → all_records any_index (records_of (request.Engine q)) ≡ true
    → is_record any_index (engine_record q) ≡ true
first_record (engine.ReadState n) h = both_left (is_record any_index (rec.Qp n)) _ h
first_record (engine.ReadNext n) h = both_left (is_record any_index (rec.Qp n)) _ h
first_record (engine.ReadAll n) h = both_left (is_record any_index (rec.Qp n)) _ h
first_record (engine.Write p s n psn) h = both_left (is_record any_index (rec.Qp n)) _ h
first_record (engine.ReadJoined n c e) h = both_left (is_record any_index (rec.Qp n)) _ h

pub request_round : (code m : ℕ) (q : Held) → numbers_hold any_index q ≡ true → request_in (request_bytes code m q) ≡ Some q
unfolding numbers_hold
request_round code m (request.Command c) h =
    let f : is_record any_index (command_record c) ≡ true = both_left (is_record any_index (command_record c)) true (both_left _ true h) in
    fields_read code 0 m (command_modifier c) (command_op c) (number_of (command_record c)) 0 0 0 0
    (number_small (command_record c) f) (lit< tt) (lit< tt) (lit< tt)
    ∙ command_in_lem c f
request_round code m (request.Engine q) h =
    let a : all_records any_index (records_of (request.Engine q)) ≡ true = both_left _ (engine_psn_holds q) h in
    let g : engine_psn_holds q ≡ true = both_right (all_records any_index (records_of (request.Engine q))) _ h in
    fields_read code 1 m 0 (engine_number q) (number_of (engine_record q)) (named_cq q) (named_eq q) (psn_in q) (state_in q)
    (number_small (engine_record q) (first_record q a)) (cq_small q a) (eq_small q a) (psn_small q g)
    ∙ engine_in_lem q (first_record q a) g

-- ---- slots

-- a slot that bytes can have: every number of its request is one of 32 bits, and its PSN is one that a submission accepts
abbrev pub slot_fits : Status → Bool
slot_fits Free = true
slot_fits (Running m q) = numbers_hold any_index q
slot_fits (Finished m q) = numbers_hold any_index q

pub slot_round : (s : Status) → slot_fits s ≡ true → status_of (status_bytes s) ≡ s
unfolding status_of slot_bytes
slot_round Free f = refl
slot_round (Running m (request.Command c)) f = rw (request_round 1 m (request.Command c) f)
slot_round (Running m (request.Engine e)) f = rw (request_round 1 m (request.Engine e) f)
slot_round (Finished m (request.Command c)) f = rw (request_round 2 m (request.Command c) f)
slot_round (Finished m (request.Engine e)) f = rw (request_round 2 m (request.Engine e) f)

-- ---- the header, at the front of a device

bit_read : (b : Bool) → eqb (bit b) 1 ≡ b
bit_read true = refl
bit_read false = refl

pub header_round : (h : Hca) (rest : List ℕ) → h.store_len < 2 ^ 64 → hca_of (hca_bytes h ++ rest) ≡ h
unfolding hca_of le32 part header_bytes le_bytes
header_round h rest f =
    let low : le_value (le_bytes 4 (h.store_len % 2 ^ 32)) ≡ h.store_len % 2 ^ 32 = le_round 4 _ (omega arith) in
    let high : le_value (le_bytes 4 (h.store_len / 2 ^ 32)) ≡ h.store_len / 2 ^ 32 = le_round 4 _ (omega arith) in
    let all : h.store_len % 2 ^ 32 + h.store_len / 2 ^ 32 * 2 ^ 32 ≡ h.store_len = omega arith in
    ap (λ (n : ℕ). state (eqb (bit h.«open») 1) (n + le_value (le_bytes 4 (h.store_len / 2 ^ 32)) * 2 ^ 32)) low
    ∙ ap (λ (n : ℕ). state (eqb (bit h.«open») 1) (h.store_len % 2 ^ 32 + n * 2 ^ 32)) high
    ∙ ap (λ (n : ℕ). state (eqb (bit h.«open») 1) n) all
    ∙ ap (λ (b : Bool). state b h.store_len) (bit_read h.«open»)
  where
    state : Bool → ℕ → Hca
    state o n = record { «open» = o; logs = h.logs; store_len = n }
