-- The theorem of demand 3 is not empty. A worked list of calls after an initialisation: every answer, the memory at the end, the
-- journal and the finished requests, written out by hand from document 01 and computed; and what the theorem says of it. Some calls
-- of the list are refused for what they are lent, and the list goes on.
use Rattle.std.specs.Prelude.{◌≡◌, refl, true, List, [], ◌∷◌, ◌++◌, ℕ, ◌+◌, ◌-◌, ◌*◌, take, drop, replicate}
use Rattle.std.proofs.Common.{sym, subst, subst₂}
use Rattle.std.proofs.lemmas.Bool.{false≢true}
use Rattle.context.specs.Layout.{is_record, same_record}
use Rattle.context.proofs.Records.{record_same}
use Rattle.context.specs.declared.Record.TheVariants as rec
use Rattle.edges.specs.declared.State.TheVariants.{Rtr, Rts, Err}
use Rattle.edges.specs.declared.Edge.TheVariants.{ResetToInit, InitToRtr, RtrToRts}
use Rattle.requests.specs.declared.PsnField.TheVariants.{NextSend, LastAcked, Expected}
use Rattle.requests.specs.declared.Owned.TheVariants as owned
use Rattle.requests.specs.declared.Command.TheVariants as on
use Rattle.requests.specs.declared.EngineRequest.TheVariants as engine
use Rattle.requests.specs.declared.Request.{Request}
use Rattle.requests.specs.declared.Request.TheVariants as request
use Rattle.burst_table.specs.Sizes.{slot_count, slot_room, room_size}
use Rattle.records.specs.Memory.{record_in}
use Rattle.slots.specs.Slots.{slot}
use Rattle.slots.specs.declared.Slot.{Slot}
use Rattle.slots.specs.declared.Status.TheVariants.{Free, Running, Finished}
use Rattle.rules.specs.World.{World, world, hca_of, status_at}
use Rattle.rules.specs.Whole.{take_words, set_state, set_psn}
use Rattle.rules.specs.Book.{Book, nop, book_number, book_reply, gated, with_record, after_record, book_after}
use Rattle.rules.specs.Calls.{engine_request, step, collection, resetting}
use Rattle.rules.specs.Lending.{Lent, begins_lent, proper}
use Rattle.rules.specs.Demand3.{Entry, turned_away, answered, in_slot, run_from, Run, Done, done, finished_in, given}
use Rattle.rules.specs.Demand3.{book_of, Unwritten, Demand3}
use Rattle.rules.proofs.Theorems.{demand3}
use Rattle.rules.proofs.Scripts.{Line, room_there, store_there, lending, enough, ◌gets◌, ◌on◌, lent_of, given_by, answers_from, asked}
use Rattle.rules.proofs.Scripts.{all_steps, by_turns, up_from, asks, image, before, first, start, everything}

-- ---- The mailboxes: of the edge to RTR; of SW2HW_CQ, with the index 1 in word 2Ch; of RESIZE_CQ

unfoldable pub image' : List ℕ
image' = replicate 164 0xb2

unfoldable pub cq : List ℕ
cq = replicate 44 0xc1 ++ (0 ∷ 0 ∷ 0 ∷ 1 ∷ replicate 8 0xc2)

unfoldable pub resize : List ℕ
resize = 0xa0 ∷ 0xa1 ∷ 0xa2 ∷ 0xa3 ∷ 0xa4 ∷ 0xa5 ∷ 0xa6 ∷ 0xa7 ∷ []

-- ---- The calls and their answers: `engine_request` has number, index, PSN and state, `asks` op, in_modifier and mailbox; `all_steps k n`
-- and `by_turns k n` are n steps of slot k. What is not said to be `on` something is lent all.

-- seven slots; a room, and a store, that is one byte too short
abbrev pub seven_slots : Lent
seven_slots = lending 7 room_there store_there

abbrev pub short_room : Lent
short_room = lending slot_count (room_size - 1) store_there

abbrev pub short_store : Lent
short_store = lending slot_count room_there (store_there - 1)

unfoldable pub lines : List Line
lines =
    -- no engine request has this number; a reader of queue pair 1; queue pair 0 is in RESET, so that RTR to RTS is not permitted, but
    -- RESET to INIT is
    engine_request 8 0 0 0 gets (2 ∷ [])
    ∷ engine_request 1 1 0 0 gets (0 ∷ 0 ∷ [])
    ∷ asks 0x1b 0 image gets (0x85 ∷ []) on enough
    ∷ asks 0x19 0 image gets (0 ∷ 1 ∷ [])
    -- its record is held, until its last burst; one command is uncollected, until it is collected
    ∷ engine_request 1 0 0 0 gets (0x81 ∷ []) on enough
    ∷ asks 0x31 0 [] gets (0x81 ∷ [])
    -- refused for what they are lent; the resets do not close, and the request goes on
    ∷ resetting gets (0x83 ∷ []) on seven_slots
    ∷ step 1 gets (0x83 ∷ []) on seven_slots
    ∷ step 1 gets (0 ∷ 15 ∷ []) on enough
    ∷ step 1 gets (0x83 ∷ []) on short_store
    ∷ resetting gets (0x83 ∷ []) on short_room
    ∷ step 1 gets (0 ∷ 14 ∷ [])
    ∷ by_turns 1 14
    ++ step 1 gets (0x84 ∷ [])
    ∷ asks 0x31 0 [] gets (0x81 ∷ []) on enough
    ∷ collection 1 [] gets (0x83 ∷ []) on short_room
    ∷ collection 1 [] gets (0 ∷ 0 ∷ [])
    ∷ asks 0x31 0 [] gets (0x83 ∷ []) on short_store
    ∷ asks 0x31 0 [] gets (0 ∷ []) on enough
    -- INIT to RTR; the mailbox is longer than needed
    ∷ asks 0x1a 0 (image' ++ 0x99 ∷ 0x99 ∷ []) gets (0 ∷ 1 ∷ [])
    ∷ by_turns 1 16
    ++ collection 1 [] gets (0 ∷ 0 ∷ [])
    -- two readers of one record; a writer waits until both are finished, and not until they are collected
    ∷ engine_request 2 0 0 0 gets (0 ∷ 1 ∷ []) on enough
    ∷ engine_request 1 0 0 0 gets (0x83 ∷ []) on short_room
    ∷ engine_request 1 0 0 0 gets (0 ∷ 2 ∷ [])
    ∷ step 1 gets (0 ∷ 1 ∷ []) on enough
    ∷ step 2 gets (0 ∷ 0 ∷ [])
    ∷ engine_request 5 0 0x20 6 gets (0x81 ∷ []) on enough
    ∷ step 1 gets (0 ∷ 0 ∷ [])
    -- RTR to RTS is no engine's write, RTR to ERR is
    ∷ engine_request 4 0 0x30 3 gets (0x85 ∷ []) on enough
    ∷ engine_request 5 0 0x20 6 gets (0 ∷ 3 ∷ [])
    -- half written: held against a reader, and against a write that no state of the record permits
    ∷ step 3 gets (0 ∷ 1 ∷ []) on enough
    ∷ collection 3 [] gets (0x86 ∷ [])
    ∷ engine_request 1 0 0 0 gets (0x81 ∷ []) on enough
    ∷ engine_request 3 0 0 0 gets (0x81 ∷ [])
    ∷ step 3 gets (0 ∷ 0 ∷ []) on enough
    -- ERR permits no engine's write
    ∷ engine_request 3 0 0 2 gets (0x85 ∷ [])
    -- RTR, as it was read, then the PSN; the rest of the buffer stays
    ∷ collection 1 (9 ∷ 9 ∷ 9 ∷ 9 ∷ 9 ∷ []) gets (0 ∷ 4 ∷ 2 ∷ 0x6d ∷ 0x6e ∷ 0x6f ∷ 9 ∷ []) on enough
    -- slots 0, 2 and 3 are occupied
    ∷ asks 0x08 0 [] gets (0x81 ∷ [])
    ∷ step 8 gets (0x84 ∷ []) on enough
    ∷ collection 4 [] gets (0x84 ∷ [])
    -- a completion queue is handed over, then resized: one of the four bursts
    ∷ asks 0x16 1 cq gets (0 ∷ 1 ∷ []) on enough
    ∷ all_steps 1 4
    ++ collection 1 [] gets (0 ∷ 0 ∷ [])
    ∷ asks 0x2c 1 resize gets (0 ∷ 1 ∷ []) on enough
    ∷ step 1 gets (0 ∷ 3 ∷ [])
    ∷ []

pub answers : answers_from start (lent_of lines) ≡ given_by lines
unfolding everything lines image' cq resize
answers = refl

-- ---- What is left

unfoldable pub end : Run
end = run_from start [] (lent_of lines)

-- the requests that were made
abbrev pub to_rts : Request
to_rts = request.Command (on.ModifyQp RtrToRts (record { 0 = 0 }))

abbrev pub to_init : Request
to_init = request.Command (on.ModifyQp ResetToInit (record { 0 = 0 }))

abbrev pub to_rtr : Request
to_rtr = request.Command (on.ModifyQp InitToRtr (record { 0 = 0 }))

abbrev pub read_state : ℕ → Request
read_state n = request.Engine (engine.ReadState (record { 0 = n }))

abbrev pub read_next : Request
read_next = request.Engine (engine.ReadNext (record { 0 = 0 }))

abbrev pub write_expected : Request
write_expected = request.Engine (engine.Write Expected Err (record { 0 = 0 }) 0x20)

abbrev pub write_acked : Request
write_acked = request.Engine (engine.Write LastAcked Rts (record { 0 = 0 }) 0x30)

abbrev pub write_next : Request
write_next = request.Engine (engine.Write NextSend Rtr (record { 0 = 0 }) 0)

abbrev pub own_cq : Request
own_cq = request.Command (on.Sw2Hw (owned.Cq (record { 0 = 1 })))

abbrev pub resize_cq : Request
resize_cq = request.Command (on.ResizeCq (record { 0 = 1 }))

-- the slots: request and bursts moved
unfoldable pub row : List Slot
row =
    slot (Running 0 (read_state 1))
    ∷ slot (Running 1 resize_cq)
    ∷ slot (Finished 1 (read_state 0))
    ∷ slot (Finished 2 write_expected)
    ∷ slot Free
    ∷ slot Free
    ∷ slot Free
    ∷ slot Free
    ∷ []

-- queue pair 0: its state is ERR; words 04h to 4Ch and word 84h are those of the second image, but for the PSN; from A4h on it is as
-- INIT_HCA left it
unfoldable pub qp : List ℕ
qp =
    (0x65 ∷ up_from 1 3)
    ++ replicate 76 0xb2
    ++ up_from 0x50 52
    ++ (0xb2 ∷ 0 ∷ 0 ∷ 0x20 ∷ up_from 0x88 28)
    ++ replicate 92 0

-- behind it queue pair 1 and completion queue 0; completion queue 1, of which byte 0Ch is new and word 18h not yet; the event queue, the
-- memory region, and what is behind the tables
unfoldable pub store : List ℕ
store =
    qp
    ++ replicate 320 0
    ++ (replicate 12 0xc1 ++ (0xa0 ∷ replicate 31 0xc1) ++ (0 ∷ 0 ∷ 0 ∷ 1 ∷ replicate 8 0xc2) ++ (replicate 7 0 ++ (1 ∷ [])))
    ++ replicate 128 0
    ++ replicate 32 0xee

-- nothing has been copied to slot 0's part; slot 1's has its last mailbox at the front and, behind it, what is left of those before and of
-- the PSN's burst, which was copied to its offset, 60h; slot 2's has the state's burst; an engine's write puts nothing into slot 3's
unfoldable pub room : List ℕ
room =
    replicate slot_room 0xdd
    ++ resize
    ++ replicate 36 0xc1
    ++ (0 ∷ 0 ∷ 0 ∷ 1 ∷ replicate 8 0xc2)
    ++ replicate 40 0xb2
    ++ up_from 0x60 16
    ++ replicate 52 0xb2
    ++ replicate (slot_room - 164) 0xdd
    ++ (0x25 ∷ 1 ∷ 2 ∷ 3 ∷ replicate 12 0xb2)
    ++ replicate (slot_room - 16) 0xdd
    ++ replicate (5 * slot_room + 2) 0xdd

pub left : end.world ≡ world (hca_of true (record { qps = 1; cqs = 1; eqs = 0; mpts = 0 }) store_there) row store room
unfolding everything lines image' cq resize end row qp store room
left = refl

-- ---- The journal, and the requests that are finished

unfoldable pub journal : List Entry
journal =
    in_slot (asked (read_state 1) []) 0
    ∷ turned_away (asked to_rts image) 0x85
    ∷ answered (asked to_init image) []
    ∷ answered nop []
    ∷ answered (asked to_rtr image') []
    ∷ answered (asked read_next []) (2 ∷ 0x6d ∷ 0x6e ∷ 0x6f ∷ [])
    ∷ in_slot (asked (read_state 0) []) 2
    ∷ turned_away (asked write_acked []) 0x85
    ∷ in_slot (asked write_expected []) 3
    ∷ turned_away (asked write_next []) 0x85
    ∷ answered (asked own_cq cq) []
    ∷ in_slot (asked resize_cq resize) 1
    ∷ []

pub journal_is : end.journal ≡ journal
unfolding everything lines image' cq resize end journal
journal_is = refl

-- two of them are not collected; the read of queue pair 1 and the resizing are not finished
unfoldable pub finished : List Done
finished =
    done (asked to_init image) []
    ∷ done nop []
    ∷ done (asked to_rtr image') []
    ∷ done (asked read_next []) (2 ∷ 0x6d ∷ 0x6e ∷ 0x6f ∷ [])
    ∷ done (asked (read_state 0) []) (2 ∷ [])
    ∷ done (asked write_expected []) []
    ∷ done (asked own_cq cq) []
    ∷ []

pub finished_is : finished_in (proper end.world) end.journal ≡ finished
unfolding everything lines image' cq resize end finished
finished_is = refl

-- ---- The plain book, given these one at a time

-- the number and the answer of each
abbrev pub book_gives : Book → List Done → List (List ℕ)
book_gives b [] = []
book_gives b (d ∷ l) = (book_number d.what b ∷ book_reply d.what b) ∷ book_gives (book_after d.what b) l

pub book_answers : book_gives (book_of (proper start)) finished
    ≡ (0 ∷ []) ∷ (0 ∷ []) ∷ (0 ∷ []) ∷ (0 ∷ 2 ∷ 0x6d ∷ 0x6e ∷ 0x6f ∷ []) ∷ (0 ∷ 2 ∷ []) ∷ (0 ∷ []) ∷ (0 ∷ []) ∷ []
unfolding everything finished image' cq gated with_record after_record book_after take_words set_state set_psn
book_answers = refl

-- its record of queue pair 0 is the store's, and in ERR; completion queue 1, which is half resized in the store, is as it was handed over
pub book_records : (book_number (asked write_next []) (given (book_of (proper start)) finished) ≡ 0x85)
    × ((given (book_of (proper start)) finished).bytes (rec.Qp (record { 0 = 0 })) ≡ qp)
    × ((given (book_of (proper start)) finished).bytes (rec.Cq (record { 0 = 1 })) ≡ cq ++ (replicate 7 0 ++ (1 ∷ [])))
unfolding everything finished image' cq qp gated with_record after_record book_after take_words set_state set_psn
book_records = (refl, refl, refl)

-- ---- What the theorem says of it

pub begins_it : begins_lent before first ≡ true
unfolding everything
begins_it = refl

pub demanded : Demand3 (book_of (proper start)) (proper end.world) end.journal
unfolding start end
demanded = demand3 before first begins_it (lent_of lines)

-- and so, of the read of the next PSN, given to the book after the three requests that were accepted before it:
pub reads : (book_number (asked read_next []) (given (book_of (proper start)) (take 3 finished)) ≡ 0)
    × (book_reply (asked read_next []) (given (book_of (proper start)) (take 3 finished)) ≡ 2 ∷ 0x6d ∷ 0x6e ∷ 0x6f ∷ [])
unfolding finished
reads =
    let d : Done = done (asked read_next []) (2 ∷ 0x6d ∷ 0x6e ∷ 0x6f ∷ []) in (
      demanded.accepts (take 3 finished) (drop 4 finished) d finished_is,
      demanded.answers (take 3 finished) (drop 4 finished) d finished_is,
    )

-- of the write that ERR does not permit, after the write to ERR, which is finished and not collected:
pub refuses : book_number (asked write_next []) (given (book_of (proper start)) (finished_in (proper end.world) (take 9 journal))) ≡ 0x85
unfolding journal
refuses = demanded.refusals (take 9 journal) (drop 10 journal) (asked write_next []) 0x85 journal_is

-- of queue pair 0, which nobody is writing: the resizing, of the requests that run, writes a completion queue
left_world : World
left_world = world (hca_of true (record { qps = 1; cqs = 1; eqs = 0; mpts = 0 }) store_there) row store room

unwritten : Unwritten (proper left_world) (rec.Qp (record { 0 = 0 })) journal
unfolding left_world status_at same_record row journal
unwritten =
    ((λ x. x), (tt, (tt, ((λ x. false≢true (record_same (rec.Cq (record { 0 = 1 })) (rec.Qp (record { 0 = 0 })) x.1)), tt))))

pub keeps : record_in end.world.hca.logs (proper end.world).memory (rec.Qp (record { 0 = 0 }))
    ≡ (given (book_of (proper start)) (finished_in (proper end.world) end.journal)).bytes (rec.Qp (record { 0 = 0 }))
unfolding left_world is_record
keeps =
    demanded.records (rec.Qp (record { 0 = 0 }))
    (subst (λ (w : World). is_record w.hca.logs (rec.Qp (record { 0 = 0 })) ≡ true) (sym left) refl)
    (subst₂ (λ (w : World) (J : List Entry). Unwritten (proper w) (rec.Qp (record { 0 = 0 })) J) (sym left) (sym journal_is) unwritten)
