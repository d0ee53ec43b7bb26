-- What a submission decides: the chain of its tests is followed once, into one type that has all that is known at each end.
use Rattle.std.specs.Prelude.{◌≡◌, true, false, not, ℕ, ◌≤◌, length, Some, Result, Ok, Err}
use mathlib.Core.List.{List}
use Rattle.context.specs.Layout.{is_record, count_of}
use Rattle.context.specs.Init.{init_of}
use Rattle.context.specs.declared.Kind.TheVariants as kind
use Rattle.context.specs.declared.Logs.{Logs}
use Rattle.context.specs.declared.QpNumber.{QpNumber}
use Rattle.context.specs.declared.Record.{Record}
use Rattle.requests.specs.declared.Request.{Request}
use Rattle.request_table.specs.Records.{record_of, records_of, all_records}
use Rattle.request_table.specs.Listed.{In}
use Rattle.mailboxes.specs.Mailboxes.{need_of}
use Rattle.contents.specs.Content.{content_holds}
use Rattle.checks.specs.declared.Denial.{Denial}
use Rattle.checks.specs.declared.Denial.TheVariants as denial
use Rattle.records.specs.Memory.{record_in, permission_in}
use Rattle.slots.specs.Slots.{is_occupied}
use Rattle.rows.specs.Rows.{any_slot, lowest_free}
use Rattle.holds.specs.Holds.{held_against, read_held}
use Rattle.rules.specs.declared.Refusal.{Refusal}
use Rattle.rules.specs.declared.Refusal.TheVariants as cause
use Rattle.rules.specs.Numbers.{for_state}
use Rattle.rules.specs.World.{World, store_length, bad_lent, bad_state}
use Rattle.rules.specs.Names.{arguments_of, read_joined}
use Rattle.rules.specs.Calls.{Asked, asks_init, asks_close, asks_nop, asks_request}
use Rattle.rules.specs.Laws.Named.{fits, Lost, trail_of, misses}
use Rattle.rules.specs.declared.Decision.{Decision}
use Rattle.rules.specs.declared.Decision.TheVariants as decide

-- what is known of a submission that comes past the first two rows
pub record Passing (w : World) : Type 0 where
  pub lent : bad_lent w ≡ false
  pub possible : bad_state w ≡ false

-- so many queue pairs, completion queues and event queues
abbrev pub qps_of : World → ℕ
qps_of w = count_of w.hca.logs kind.Qp

abbrev pub cqs_of : World → ℕ
cqs_of w = count_of w.hca.logs kind.Cq

abbrev pub eqs_of : World → ℕ
eqs_of w = count_of w.hca.logs kind.Eq

-- of a request that is asked for: the store has its records, and they have the names that it holds
pub record Asking (w : World) (q : Request) : Type 0 where
  pub passing : Passing w
  pub opened : w.hca.«open» ≡ true
  pub valid : is_record w.hca.logs (record_of q) ≡ true
  pub all : all_records w.hca.logs (records_of q) ≡ true
  pub named : fits (qps_of w) (cqs_of w) (eqs_of w) q (record_in w.hca.logs w.memory) ≡ true

-- and of one whose record is judged
pub record Judging (w : World) (q : Request) (mail : List ℕ) : Type 0 where
  pub asking : Asking w q
  pub enough : need_of q ≤ length mail
  pub content : content_holds q mail ≡ true
  pub free : held_against w.row q ≡ false

-- of a joined read that comes to a name out of range: no record that it came to is held, and the store has them
pub record Missing (w : World) (n : QpNumber) (t : Lost) : Type 0 where
  pub passing : Passing w
  pub opened : w.hca.«open» ≡ true
  pub all : all_records w.hca.logs (trail_of n t) ≡ true
  pub free : (X : Record) → In X (trail_of n t) → read_held w.row X ≡ false
  pub missed : misses (cqs_of w) (eqs_of w) n t (record_in w.hca.logs w.memory) ≡ true

-- what is decided, of what is asked: a refusal that is not for the record's state, or one that is; a request that takes a slot; a command
-- that is done at once
pub data Decided (w : World) (mail : List ℕ) : Asked → Result Decision Refusal → Type 0 where
  plain : {a : Asked} (c : Refusal) → for_state c ≡ false → Decided w mail a (Err c)
  denied : {q : Request} {d : Denial} → Judging w q mail → permission_in w.hca.logs w.memory q ≡ Err d
      → Decided w mail (asks_request (arguments_of q)) (Err (cause.Denied d))
  misnamed : {n : QpNumber} {t : Lost} → Missing w n t
      → Decided w mail (asks_request (read_joined n)) (Err (cause.Denied denial.Name))
  takes : {q : Request} {k : ℕ} → Judging w q mail → permission_in w.hca.logs w.memory q ≡ Ok tt → lowest_free 0 w.row ≡ Some k
      → Decided w mail (asks_request (arguments_of q)) (Ok (decide.Take q k))
  closes : w.hca.«open» ≡ true → any_slot is_occupied w.row ≡ false → Decided w mail asks_close (Ok decide.Close)
  rests : Decided w mail asks_nop (Ok decide.Nothing)
  opens : {g : Logs} → Passing w → w.hca.«open» ≡ false → init_of mail (store_length w) ≡ Ok g
      → Decided w mail asks_init (Ok (decide.Open g))
