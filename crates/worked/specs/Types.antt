-- A list of calls in which an engine write is refused for the service type (02, wish 5). Queue pair 0, of RC, is brought to RTS; a write to
-- SQE waits for the record as any other, and is then refused with 0x88; the journal has it, and so the theorem speaks of it.
use Rattle.std.specs.Prelude.{◌≡◌, refl, List, [], ◌∷◌, ◌++◌, ℕ, take, drop, replicate}
use Rattle.edges.specs.declared.State.{State}
use Rattle.edges.specs.declared.State.TheVariants.{Rtr, Sqe}
use Rattle.requests.specs.declared.PsnField.TheVariants.{NextSend}
use Rattle.requests.specs.declared.EngineRequest.TheVariants as engine
use Rattle.requests.specs.declared.Request.{Request}
use Rattle.requests.specs.declared.Request.TheVariants as request
use Rattle.rules.specs.Book.{book_number, gated, with_record, after_record, book_after}
use Rattle.rules.specs.Whole.{take_words, set_state, set_psn}
use Rattle.rules.specs.Calls.{engine_request, collection}
use Rattle.rules.specs.Lending.{proper}
use Rattle.rules.specs.Demand3.{Entry, turned_away, answered, in_slot, run_from, Run, Done, done, finished_in, given, book_of, Demand3}
use Rattle.rules.proofs.Theorems.{demand3}
use Rattle.rules.proofs.Scripts.{Line, ◌gets◌, lent_of, given_by, answers_from, all_steps, asked, asks, before, first, start, everything}
use Rattle.worked.specs.Worked.{to_init, to_rtr, to_rts, begins_it}

-- an image of a queue pair whose type is RC
unfoldable pub image_rc : List ℕ
image_rc = replicate 164 0

-- a command on queue pair 0, in slot 0, whole
abbrev pub whole : ℕ → List Line
whole op = asks op 0 image_rc gets (0 ∷ 0 ∷ []) ∷ all_steps 0 16 ++ collection 0 [] gets (0 ∷ 0 ∷ []) ∷ []

unfoldable pub typed : List Line
typed =
    whole 0x19
    ++ whole 0x1a
    -- RTR to RTS; the record is held against a write, whatever its type
    ++ asks 0x1b 0 image_rc gets (0 ∷ 0 ∷ [])
    ∷ engine_request 3 0 0x20 4 gets (0x81 ∷ [])
    ∷ all_steps 0 16
    -- in RTS: SQE is for the other types, and RTR for none
    ++ engine_request 3 0 0x20 4 gets (0x88 ∷ [])
    ∷ engine_request 3 0 0x20 2 gets (0x85 ∷ [])
    ∷ []

pub typed_answers : answers_from start (lent_of typed) ≡ given_by typed
unfolding everything typed image_rc
typed_answers = refl

-- ---- the journal, and what the theorem says of it

unfoldable pub ended : Run
ended = run_from start [] (lent_of typed)

abbrev pub writes : State → Request
writes to = request.Engine (engine.Write NextSend to (record { 0 = 0 }) 0x20)

-- both refusals are for the record's state; that for the hold is not
unfoldable pub noted : List Entry
noted =
    answered (asked to_init image_rc) []
    ∷ answered (asked to_rtr image_rc) []
    ∷ in_slot (asked to_rts image_rc) 0
    ∷ turned_away (asked (writes Sqe) []) 0x88
    ∷ turned_away (asked (writes Rtr) []) 0x85
    ∷ []

pub typed_journal : ended.journal ≡ noted
unfolding everything typed image_rc ended noted
typed_journal = refl

pub typed_demanded : Demand3 (book_of (proper start)) (proper ended.world) ended.journal
unfolding start ended
typed_demanded = demand3 before first begins_it (lent_of typed)

-- the book, given the three edges, gives the write to SQE 0x88 too: by the theorem,
pub typed_refuses : book_number (asked (writes Sqe) []) (given (book_of (proper start)) (finished_in (proper ended.world) (take 3 noted))) ≡ 0x88
unfolding noted
typed_refuses = typed_demanded.refusals (take 3 noted) (drop 4 noted) (asked (writes Sqe) []) 0x88 typed_journal

-- and by computing it
unfoldable pub edges : List Done
edges = done (asked to_init image_rc) [] ∷ done (asked to_rtr image_rc) [] ∷ done (asked to_rts image_rc) [] ∷ []

pub typed_book : (book_number (asked (writes Sqe) []) (given (book_of (proper start)) edges) ≡ 0x88)
    × (book_number (asked (writes Rtr) []) (given (book_of (proper start)) edges) ≡ 0x85)
unfolding everything edges image_rc gated with_record after_record book_after take_words set_state set_psn
typed_book = (refl, refl)
