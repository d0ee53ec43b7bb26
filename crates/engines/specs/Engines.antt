-- From number, index, PSN and state to the engine request (01, Engine requests).
use Rattle.std.specs.Prelude.{Bool, true, ℕ, eqb, ltb, leb, Option, Some, None}
use Rattle.words.specs.Choice.{pick, both, within}
use Rattle.context.specs.Layout.{count_of}
use Rattle.numbers.specs.Numbers.{qp_of}
use Rattle.context.specs.declared.Kind.TheVariants as kind
use Rattle.context.specs.declared.Logs.{Logs}
use Rattle.context.specs.declared.QpNumber.{QpNumber}
use Rattle.edges.specs.declared.State.{State}
use Rattle.edges.specs.declared.State.TheVariants.{Reset, Init, Rtr, Rts, Sqe, Sqd, Err}
use Rattle.requests.specs.Psns.{psn_fits}
use Rattle.requests.specs.declared.PsnField.{PsnField}
use Rattle.requests.specs.declared.PsnField.TheVariants.{NextSend, LastAcked, Expected}
use Rattle.requests.specs.declared.EngineRequest.TheVariants as engine
use Rattle.engines.specs.declared.EngineNumber.{EngineNumber}
use Rattle.engines.specs.declared.EngineNumber.TheVariants as number
use Rattle.engines.specs.declared.EngineAsked.{EngineAsked}
use Rattle.engines.specs.declared.EngineAsked.TheVariants as asked

-- What each number asks for: 1, 2 and 6 read, 3 to 5 write a PSN and the state (01, Engine requests); 7 is the joined read (02, wish 2).
unfoldable pub read_number : ℕ → Option EngineNumber
read_number n =
    pick (eqb n 1) (Some number.ReadState)
    (pick (eqb n 2) (Some number.ReadNext)
    (pick (eqb n 3) (Some (number.Write NextSend))
    (pick (eqb n 4) (Some (number.Write LastAcked))
    (pick (eqb n 5) (Some (number.Write Expected))
    (pick (eqb n 6) (Some number.ReadAll)
    (pick (eqb n 7) (Some number.ReadJoined)
    None))))))

-- The state of a code up to 6 (01, The context store). A larger code is no state (01, Numbers returned, 3).
abbrev pub state_at : ℕ → State
state_at code =
    pick (eqb code 0) Reset
    (pick (eqb code 1) Init
    (pick (eqb code 2) Rtr
    (pick (eqb code 3) Rts
    (pick (eqb code 4) Sqe
    (pick (eqb code 5) Sqd
    Err)))))

unfoldable pub state_from : ℕ → Option State
state_from code = pick (leb code 6) (Some (state_at code)) None

abbrev pub write_found : PsnField → QpNumber → ℕ → Option State → Option EngineAsked
write_found p n psn (Some s) = Some (asked.OnRecord (engine.Write p s n psn))
write_found p n psn None = None

-- A write needs a PSN of 24 bits and a state (01, Numbers returned, 3).
abbrev pub engine_write_of : PsnField → QpNumber → ℕ → Option State → Option EngineAsked
engine_write_of p n psn s = pick (psn_fits psn) (write_found p n psn s) None

-- A read has no use for PSN and state, and does not look at them (01, Engine requests; 02, wish 2).
abbrev pub engine_on : EngineNumber → QpNumber → ℕ → ℕ → Option EngineAsked
engine_on number.ReadState n psn code = Some (asked.OnRecord (engine.ReadState n))
engine_on number.ReadNext n psn code = Some (asked.OnRecord (engine.ReadNext n))
engine_on number.ReadAll n psn code = Some (asked.OnRecord (engine.ReadAll n))
engine_on (number.Write p) n psn code = engine_write_of p n psn (state_from code)
engine_on number.ReadJoined n psn code = Some (asked.Joined n)

abbrev pub engine_at : EngineNumber → Option QpNumber → ℕ → ℕ → Option EngineAsked
engine_at k (Some n) psn code = engine_on k n psn code
engine_at k None psn code = None

-- The index is a queue pair's number.
unfoldable pub read_engine : Logs → EngineNumber → ℕ → ℕ → ℕ → Option EngineAsked
read_engine g k index psn code = engine_at k (qp_of g index) psn code

-- 01's number for each answer: 2 is that of a request that is not served, 3 that of a wrong index, PSN or state
-- (01, Numbers returned).
abbrev pub number_found_number : Option EngineNumber → ℕ
number_found_number (Some k) = 0
number_found_number None = 2

abbrev pub engine_found_number : Option EngineAsked → ℕ
engine_found_number (Some (asked.OnRecord r)) = 0
engine_found_number (Some (asked.Joined n)) = 0
engine_found_number None = 3

-- The requests are numbered 1 to 7 (01, Engine requests; 02, wish 2).
unfoldable pub is_numbered : ℕ → Bool
is_numbered n = within 1 7 n

-- A request is right if its index is below the count of queue pairs and, in a write, PSN and state are not past their ranges
-- (01, Engine requests; Numbers returned, 3).
abbrev pub fields_right : EngineNumber → ℕ → ℕ → Bool
fields_right number.ReadState psn code = true
fields_right number.ReadNext psn code = true
fields_right number.ReadAll psn code = true
fields_right (number.Write p) psn code = both (leb psn 0xffffff) (leb code 6)
fields_right number.ReadJoined psn code = true

unfoldable pub engine_right : Logs → EngineNumber → ℕ → ℕ → ℕ → Bool
engine_right g k index psn code = both (ltb index (count_of g kind.Qp)) (fields_right k psn code)

-- What a request asks for on queue pair n.
abbrev pub request_on : EngineNumber → ℕ → ℕ → ℕ → Option EngineAsked
request_on number.ReadState n psn code = Some (asked.OnRecord (engine.ReadState (record { 0 = n })))
request_on number.ReadNext n psn code = Some (asked.OnRecord (engine.ReadNext (record { 0 = n })))
request_on number.ReadAll n psn code = Some (asked.OnRecord (engine.ReadAll (record { 0 = n })))
request_on (number.Write p) n psn code = Some (asked.OnRecord (engine.Write p (state_at code) (record { 0 = n }) psn))
request_on number.ReadJoined n psn code = Some (asked.Joined (record { 0 = n }))
