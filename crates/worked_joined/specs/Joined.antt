-- A worked list of calls with engine request 7, after an initialisation: every answer, the slots, the journal and the finished requests,
-- written out by hand from document 02, wish 2, and computed; and what the theorems say of it.
use Rattle.std.specs.Prelude.{◌≡◌, refl, true, List, [], ◌∷◌, ◌++◌, ℕ, take, replicate}
use Rattle.context.specs.declared.CqNumber.{CqNumber}
use Rattle.context.specs.declared.EqNumber.{EqNumber}
use Rattle.context.specs.declared.QpNumber.{QpNumber}
use Rattle.edges.specs.declared.Edge.TheVariants.{ResetToInit}
use Rattle.requests.specs.declared.Owned.TheVariants as owned
use Rattle.requests.specs.declared.Command.TheVariants as on
use Rattle.requests.specs.declared.EngineRequest.TheVariants as engine
use Rattle.requests.specs.declared.Request.{Request}
use Rattle.requests.specs.declared.Request.TheVariants as request
use Rattle.slots.specs.Slots.{slot}
use Rattle.slots.specs.declared.Slot.{Slot}
use Rattle.slots.specs.declared.Status.TheVariants.{Free, Running, Finished}
use Rattle.rules.specs.Names.{joins}
use Rattle.rules.specs.Whole.{take_words, set_state}
use Rattle.rules.specs.Book.{book_number, book_reply, gated, with_record, after_record, book_after}
use Rattle.rules.specs.Calls.{engine_request, step, collection}
use Rattle.rules.specs.Lending.{begins_lent, proper}
use Rattle.rules.specs.Demand3.{Entry, turned_away, answered, in_slot, run_from, Run, Done, done, finished_in, given, book_of, Demand3}
use Rattle.rules.specs.Running.{Stands}
use Rattle.rules.proofs.Theorems.{demand3, running}
use Rattle.rules.proofs.Scripts.{Line, enough, ◌gets◌, ◌on◌, lent_of, given_by, answers_from, all_steps, asked, up_from, asks, before, first}
use Rattle.rules.proofs.Scripts.{start, everything}

-- ---- The mailboxes

-- of SW2HW_CQ: word 10h names an event queue, word 2Ch has the index
unfoldable pub cq_mail : ℕ → ℕ → List ℕ
cq_mail e n = replicate 16 0xc1 ++ (0 ∷ 0 ∷ 0 ∷ e ∷ replicate 24 0xc2) ++ (0 ∷ 0 ∷ 0 ∷ n ∷ replicate 8 0xc3)

unfoldable pub eq_mail : List ℕ
eq_mail = replicate 48 0xe1

unfoldable pub mpt_mail : List ℕ
mpt_mail = replicate 56 0xd1

-- of the edge to INIT: byte i is i, but for byte 0, whose state bits are not read, and word 70h, which names a completion queue
unfoldable pub qp_mail : ℕ → ℕ → List ℕ
qp_mail high low = 0x75 ∷ up_from 1 111 ++ (high ∷ 0 ∷ 0 ∷ low ∷ up_from 0x74 48)

-- ---- The calls and their answers. There are two queue pairs, two completion queues, one event queue and one memory region.

unfoldable pub lines : List Line
lines =
    -- completion queue 1 names event queue 0; queue pair 0 names completion queue 1. A queue pair that is half written is held, whatever
    -- it names; PSN and state are not looked at
    asks 0x16 1 (cq_mail 0 1) gets (0 ∷ 0 ∷ [])
    ∷ all_steps 0 4
    ++ collection 0 [] gets (0 ∷ 0 ∷ [])
    ∷ asks 0x19 0 (qp_mail 0 1) gets (0 ∷ 0 ∷ [])
    ∷ step 0 gets (0 ∷ 15 ∷ [])
    ∷ engine_request 7 0 0xffffffff 9 gets (0x81 ∷ [])
    ∷ all_steps 0 15
    ++ collection 0 [] gets (0 ∷ 0 ∷ [])
    -- no queue pair 2; the event queue is held while it is handed over
    ∷ engine_request 7 2 0 0 gets (3 ∷ [])
    ∷ asks 0x13 0 eq_mail gets (0 ∷ 0 ∷ [])
    ∷ engine_request 7 0 0 0 gets (0x81 ∷ [])
    ∷ all_steps 0 4
    ++ collection 0 [] gets (0 ∷ 0 ∷ [])
    -- the joined read runs; writers of each of its three records wait, readers do not, and a second joined read shares all three
    ∷ engine_request 7 0 0xffffffff 9 gets (0 ∷ 0 ∷ [])
    ∷ step 0 gets (0 ∷ 23 ∷ [])
    ∷ engine_request 3 0 5 6 gets (0x81 ∷ [])
    ∷ asks 0x2c 1 (replicate 8 0) gets (0x81 ∷ [])
    ∷ asks 0x17 1 [] gets (0x81 ∷ []) on enough
    ∷ asks 0x14 0 [] gets (0x81 ∷ [])
    ∷ engine_request 1 0 0 0 gets (0 ∷ 1 ∷ [])
    ∷ engine_request 7 0 0 0 gets (0 ∷ 2 ∷ []) on enough
    -- a fourth record is written meanwhile, burst by burst between the others
    ∷ asks 0x0d 0 mpt_mail gets (0 ∷ 3 ∷ [])
    ∷ step 3 gets (0 ∷ 3 ∷ [])
    ∷ step 0 gets (0 ∷ 22 ∷ [])
    ∷ step 3 gets (0 ∷ 2 ∷ [])
    ∷ all_steps 0 22
    ++ all_steps 3 2
    ++ collection 3 [] gets (0 ∷ 0 ∷ [])
    -- 384 bytes: the queue pair, in INIT; the completion queue; the event queue; a shorter buffer is refused
    ∷ collection 0 (replicate 383 9) gets (0x83 ∷ [])
    ∷ collection 0 (replicate 385 9)
    gets (0 ∷ 384 ∷ (0x15 ∷ up_from 1 111 ++ (0 ∷ 0 ∷ 0 ∷ 1 ∷ up_from 0x74 48) ++ replicate 92 0)
    ++ (cq_mail 0 1 ++ (replicate 7 0 ++ (1 ∷ [])))
    ++ (eq_mail ++ (replicate 15 0 ++ (1 ∷ [])))
    ++ 9 ∷ [])
    -- completion queue 0 names event queue 1, which there is not: held while it is handed over, then 3
    ∷ asks 0x16 0 (cq_mail 1 0) gets (0 ∷ 0 ∷ [])
    ∷ engine_request 7 1 0 0 gets (0x81 ∷ [])
    ∷ all_steps 0 4
    ++ collection 0 [] gets (0 ∷ 0 ∷ [])
    ∷ engine_request 7 1 0 0 gets (3 ∷ [])
    -- queue pair 1 names completion queue 1000001h, all 32 bits of it: held while it is written, then 3
    ∷ asks 0x19 1 (qp_mail 1 1) gets (0 ∷ 0 ∷ [])
    ∷ engine_request 7 1 0 0 gets (0x81 ∷ [])
    ∷ all_steps 0 16
    ++ collection 0 [] gets (0 ∷ 0 ∷ [])
    ∷ engine_request 7 1 0 0 gets (3 ∷ [])
    -- its slot is the lowest free one again; of the second joined read two bursts are moved
    ∷ step 2 gets (0 ∷ 23 ∷ [])
    ∷ step 2 gets (0 ∷ 22 ∷ [])
    ∷ []

pub answers : answers_from start (lent_of lines) ≡ given_by lines
unfolding everything lines cq_mail eq_mail mpt_mail qp_mail
answers = refl

-- ---- What is left

unfoldable pub end : Run
end = run_from start [] (lent_of lines)

abbrev qp : ℕ → QpNumber
qp n = record { 0 = n }

abbrev cq : ℕ → CqNumber
cq n = record { 0 = n }

abbrev eq : ℕ → EqNumber
eq n = record { 0 = n }

abbrev pub own_cq : ℕ → Request
own_cq n = request.Command (on.Sw2Hw (owned.Cq (cq n)))

abbrev pub to_init : ℕ → Request
to_init n = request.Command (on.ModifyQp ResetToInit (qp n))

abbrev pub own_eq : Request
own_eq = request.Command (on.Sw2Hw (owned.Eq (eq 0)))

abbrev pub own_mpt : Request
own_mpt = request.Command (on.Sw2Hw (owned.Mpt (record { 0 = 0 })))

-- the slot's request, with the names that it read
abbrev pub joined_read : Request
joined_read = joins (qp 0) (cq 1) (eq 0)

abbrev pub read_state : Request
read_state = request.Engine (engine.ReadState (qp 0))

pub slots : end.world.row
    ≡ slot Free ∷ slot (Running 0 read_state) ∷ slot (Running 2 joined_read) ∷ slot Free ∷ slot Free ∷ slot Free ∷ slot Free ∷ slot Free ∷ []
unfolding everything lines cq_mail eq_mail mpt_mail qp_mail end
slots = refl

-- the answer of the joined read
unfoldable pub three : List ℕ
three =
    (0x15 ∷ up_from 1 111 ++ (0 ∷ 0 ∷ 0 ∷ 1 ∷ up_from 0x74 48) ++ replicate 92 0)
    ++ (cq_mail 0 1 ++ (replicate 7 0 ++ (1 ∷ [])))
    ++ (eq_mail ++ (replicate 15 0 ++ (1 ∷ [])))

-- a refusal for a name is noted, with 3; one for a hold, and one for the index, is not. What the book is fed of a joined read has no names
unfoldable pub journal : List Entry
journal =
    answered (asked (own_cq 1) (cq_mail 0 1)) []
    ∷ answered (asked (to_init 0) (qp_mail 0 1)) []
    ∷ answered (asked own_eq eq_mail) []
    ∷ answered (asked joined_read []) three
    ∷ in_slot (asked read_state []) 1
    ∷ in_slot (asked joined_read []) 2
    ∷ answered (asked own_mpt mpt_mail) []
    ∷ answered (asked (own_cq 0) (cq_mail 1 0)) []
    ∷ turned_away (asked (joins (qp 1) (cq 0) (eq 0)) []) 3
    ∷ answered (asked (to_init 1) (qp_mail 1 1)) []
    ∷ turned_away (asked (joins (qp 1) (cq 0) (eq 0)) []) 3
    ∷ []

pub journal_is : end.journal ≡ journal
unfolding everything lines cq_mail eq_mail mpt_mail qp_mail end journal three
journal_is = refl

-- ---- The plain book: given the three requests before it, it accepts the joined read and gives the same answer; at the end it gives 3 to
-- one on queue pair 1

unfoldable pub first_three : List Done
first_three = done (asked (own_cq 1) (cq_mail 0 1)) [] ∷ done (asked (to_init 0) (qp_mail 0 1)) [] ∷ done (asked own_eq eq_mail) [] ∷ []

pub book : (book_number (asked joined_read []) (given (book_of (proper start)) first_three) ≡ 0)
    × (book_reply (asked joined_read []) (given (book_of (proper start)) first_three) ≡ three)
    × (book_number (asked (joins (qp 1) (cq 0) (eq 0)) []) (given (book_of (proper start)) first_three) ≡ 0)
unfolding everything first_three cq_mail eq_mail qp_mail three gated with_record after_record book_after take_words set_state
book = (refl, refl, refl)

-- ---- What the theorems say of it

pub begins_it : begins_lent before first ≡ true
unfolding everything
begins_it = refl

pub demanded : Demand3 (book_of (proper start)) (proper end.world) end.journal
unfolding start end
demanded = demand3 before first begins_it (lent_of lines)

-- of the last refusal for a name, given all finished requests:
pub refuses : book_number (asked (joins (qp 1) (cq 0) (eq 0)) [])
    (given (book_of (proper start)) (finished_in (proper end.world) (take 10 journal))) ≡ 3
unfolding journal
refuses = demanded.refusals (take 10 journal) [] (asked (joins (qp 1) (cq 0) (eq 0)) []) 3 journal_is

-- of the joined read that runs: its names stand in the store, and the book finds them
pub stands : Stands (book_of (proper start)) (proper end.world) end.journal 2 (qp 0) (cq 1) (eq 0)
unfolding everything lines cq_mail eq_mail mpt_mail qp_mail end
stands = running before first begins_it (lent_of lines) 2 2 (qp 0) (cq 1) (eq 0) refl
