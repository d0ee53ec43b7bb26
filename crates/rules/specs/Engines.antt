-- The submission of an engine request: the rows of 01's table of refusals from the top, as far as the request's own.
use Rattle.std.specs.Prelude.{not, [], ℕ, Option, Some, None, Result, Err}
use Rattle.words.specs.Choice.{pick}
use Rattle.context.specs.declared.CqNumber.{CqNumber}
use Rattle.context.specs.declared.QpNumber.{QpNumber}
use Rattle.context.specs.declared.Record.TheVariants as rec
use Rattle.context.specs.declared.EqNumber.{EqNumber}
use Rattle.requests.specs.declared.Request.TheVariants as request
use Rattle.numbers.specs.Numbers.{cq_of, eq_of}
use Rattle.checks.specs.Fields.{cq_named, eq_named}
use Rattle.checks.specs.declared.Denial.TheVariants as denial
use Rattle.engines.specs.Engines.{read_number, read_engine}
use Rattle.engines.specs.declared.EngineAsked.{EngineAsked}
use Rattle.engines.specs.declared.EngineNumber.{EngineNumber}
use Rattle.engines.specs.declared.EngineAsked.TheVariants as asked
use Rattle.records.specs.Memory.{record_in}
use Rattle.rows.specs.Rows.{lowest_free}
use Rattle.holds.specs.Holds.{read_held}
use Rattle.rules.specs.declared.Refusal.TheVariants as cause
use Rattle.rules.specs.World.{World, bad_lent, bad_state}
use Rattle.rules.specs.Names.{joins}
use Rattle.rules.specs.Admission.{Submitted, applied, decide_place, decide_request}
use Rattle.rules.specs.declared.Decision.{Decision}
use Rattle.rules.specs.declared.Refusal.{Refusal}

-- The joined read asks for its records in turn, since each is named in the one before it: 0x81 for a queue pair that a writer holds; then,
-- for the completion queue and after it the event queue, 3 for a name out of range and 0x81 for its hold; then the slot (02, wish 2). A
-- record that is held is not read.
unfoldable pub decide_eq : World → QpNumber → CqNumber → Option EqNumber → Result Decision Refusal
decide_eq w n c None = Err (cause.Denied denial.Name)
decide_eq w n c (Some e) =
    pick (read_held w.row (rec.Eq e)) (Err cause.Held) (decide_place (joins n c e) (lowest_free 0 w.row))

unfoldable pub decide_cq : World → QpNumber → Option CqNumber → Result Decision Refusal
decide_cq w n None = Err (cause.Denied denial.Name)
decide_cq w n (Some c) =
    pick (read_held w.row (rec.Cq c)) (Err cause.Held)
    (decide_eq w n c (eq_of w.hca.logs (eq_named (record_in w.hca.logs w.memory (rec.Cq c)))))

unfoldable pub decide_joined : World → QpNumber → Result Decision Refusal
decide_joined w n =
    pick (read_held w.row (rec.Qp n)) (Err cause.Held)
    (decide_cq w n (cq_of w.hca.logs (cq_named (record_in w.hca.logs w.memory (rec.Qp n)))))

-- The index is that of a queue pair; of a write, PSN and state are in range (01, Numbers returned, the second 3).
unfoldable pub decide_asked : World → Option EngineAsked → Result Decision Refusal
decide_asked w (Some (asked.OnRecord e)) = decide_request w (request.Engine e) []
decide_asked w (Some (asked.Joined n)) = decide_joined w n
decide_asked w None = Err cause.BadParameter

-- The request number is served; the adapter is open (01, Numbers returned, 2 and 4).
unfoldable pub decide_number : World → ℕ → ℕ → ℕ → Option EngineNumber → Result Decision Refusal
decide_number w index psn state None = Err cause.NotServed
decide_number w index psn state (Some n) =
    pick (not w.hca.«open») (Err cause.BadSystemState)
    (decide_asked w (read_engine w.hca.logs n index psn state))

-- lent memory and state are tested first, as by every call but reset
unfoldable pub decide_engine : World → ℕ → ℕ → ℕ → ℕ → Result Decision Refusal
decide_engine w number index psn state =
    pick (bad_lent w) (Err cause.BadLength)
    (pick (bad_state w) (Err cause.Impossible)
    (decide_number w index psn state (read_number number)))

unfoldable pub submit_engine : World → ℕ → ℕ → ℕ → ℕ → Submitted
submit_engine w number index psn state = applied w [] (decide_engine w number index psn state)
