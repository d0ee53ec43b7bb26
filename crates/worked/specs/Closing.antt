-- Short lists of calls: one that closes, one that is reset, and a full row. The answers are written out by hand from document 01.
use Rattle.std.specs.Prelude.{◌≡◌, refl, false, List, [], ◌∷◌, ◌++◌, map, ◌-◌, replicate}
use Rattle.burst_table.specs.Sizes.{slot_count, room_size}
use Rattle.rows.specs.Rows.{empty_row}
use Rattle.rules.specs.World.{world, hca_of}
use Rattle.rules.specs.Book.{Fed, close_hca, nop, book_number, gated, with_record, after_record, book_after}
use Rattle.rules.specs.Calls.{engine_request, step, collection, resetting, world_after}
use Rattle.rules.specs.Lending.{proper}
use Rattle.rules.specs.Demand3.{answered, run_from, Run, done, finished_in, given, book_of, Demand3}
use Rattle.rules.proofs.Theorems.{demand3}
use Rattle.rules.proofs.Scripts.{Line, room_there, store_there, lending, enough, ◌gets◌, ◌on◌, lent_of, given_by, answers_from, all_steps, asked}
use Rattle.rules.proofs.Scripts.{asks, init_mail, image, before, first, start, everything}
use Rattle.worked.specs.Worked.{read_state, begins_it, seven_slots, short_room, short_store}

-- ---- CLOSE_HCA

-- a slot is occupied; then none is; closed, all but NOP gets 4, no slot has a request, and the store's length is not tested
unfoldable pub closing : List Line
closing =
    engine_request 1 1 0 0 gets (0 ∷ 0 ∷ [])
    ∷ step 0 gets (0 ∷ 0 ∷ []) on enough
    ∷ asks 0x08 0 [] gets (0x81 ∷ [])
    ∷ collection 0 (9 ∷ 9 ∷ []) gets (0 ∷ 1 ∷ 0 ∷ 9 ∷ [])
    ∷ asks 0x08 0 [] gets (0x83 ∷ []) on seven_slots
    ∷ asks 0x08 0 [] gets (0 ∷ [])
    ∷ asks 0x31 0 [] gets (0 ∷ []) on enough
    ∷ asks 0x31 0 [] gets (0x83 ∷ []) on short_room
    ∷ engine_request 1 1 0 0 gets (4 ∷ []) on short_store
    ∷ asks 0x22 0 [] gets (4 ∷ [])
    ∷ asks 0x08 0 [] gets (4 ∷ [])
    ∷ step 0 gets (0x84 ∷ [])
    ∷ []

pub closing_answers : answers_from start (lent_of closing) ≡ given_by closing
unfolding everything closing
closing_answers = refl

unfoldable pub closed : Run
closed = run_from start [] (lent_of closing)

-- CLOSE_HCA and NOP leave store, row and room (01, Commands); the room has the burst that was read
pub closing_left : closed.world
    ≡ world (hca_of false (record { qps = 1; cqs = 1; eqs = 0; mpts = 0 }) store_there) empty_row
    (replicate 768 0 ++ replicate 32 0xee)
    (replicate 16 0 ++ replicate (room_there - 16) 0xdd)
unfolding everything closing closed
closing_left = refl

-- a refusal with 4 is not for a record's state
pub closing_journal : closed.journal
    ≡ answered (asked (read_state 1) []) (0 ∷ []) ∷ answered close_hca [] ∷ answered nop [] ∷ []
unfolding everything closing closed
closing_journal = refl

pub closing_finished : finished_in (proper closed.world) closed.journal
    ≡ done (asked (read_state 1) []) (0 ∷ []) ∷ done close_hca [] ∷ done nop [] ∷ []
unfolding everything closing closed
closing_finished = refl

pub closing_demanded : Demand3 (book_of (proper start)) (proper closed.world) closed.journal
unfolding start closed
closing_demanded = demand3 before first begins_it (lent_of closing)

-- the closed book gives 4 to all but NOP (01, The plain book of demand 3)
pub closed_book : map (λ (f : Fed). book_number f (given (book_of (proper start)) (finished_in (proper closed.world) closed.journal)))
    (asked (read_state 0) [] ∷ close_hca ∷ nop ∷ [])
    ≡ 4 ∷ 4 ∷ 0 ∷ []
unfolding everything closing closed with_record gated after_record book_after
closed_book = refl

-- ---- Reset

-- it leaves store and room, empties all slots and closes; the dropped request's record is as its last burst left it
-- (01, Bursts, slots and holds)
pub dropped : world_after (world_after (world_after start (asks 0x19 0 image)) (step 0)) resetting
    ≡ world (hca_of false (record { qps = 1; cqs = 1; eqs = 0; mpts = 0 }) store_there) empty_row
    (0x15 ∷ 1 ∷ 2 ∷ 3 ∷ 4 ∷ 5 ∷ 6 ∷ 7 ∷ 8 ∷ 9 ∷ 10 ∷ 11 ∷ 12 ∷ 13 ∷ 14 ∷ 15 ∷ replicate 752 0 ++ replicate 32 0xee)
    (image ++ replicate (room_there - 164) 0xdd)
unfolding everything
dropped = refl

-- it tests row and room, and not the store; after it the adapter is initialised again, and the dropped request's record is zero
unfoldable pub reset_and : List Line
reset_and =
    asks 0x19 0 image gets (0 ∷ 0 ∷ [])
    ∷ step 0 gets (0 ∷ 15 ∷ [])
    ∷ resetting gets (0x83 ∷ []) on seven_slots
    ∷ resetting gets (0x83 ∷ []) on short_room
    ∷ step 0 gets (0 ∷ 14 ∷ []) on enough
    ∷ resetting gets (0 ∷ []) on lending slot_count room_size 0
    ∷ asks 0x31 0 [] gets (0 ∷ [])
    ∷ step 0 gets (0x84 ∷ [])
    ∷ engine_request 1 0 0 0 gets (4 ∷ [])
    ∷ asks 0x07 0 init_mail gets (0 ∷ [])
    ∷ asks 0x07 0 init_mail gets (4 ∷ [])
    ∷ engine_request 6 0 0 0 gets (0 ∷ 0 ∷ [])
    ∷ all_steps 0 16
    ++ collection 0 (replicate 257 9) gets (0 ∷ 256 ∷ replicate 256 0 ++ 9 ∷ [])
    ∷ []

pub reset_answers : answers_from start (lent_of reset_and) ≡ given_by reset_and
unfolding everything reset_and
reset_answers = refl

-- ---- A full row: the ninth request gets 0x82, and after one collection is accepted in that slot (01, Examples to hold it against)

unfoldable pub full : List Line
full =
    engine_request 1 0 0 0 gets (0 ∷ 0 ∷ [])
    ∷ engine_request 1 0 0 0 gets (0 ∷ 1 ∷ [])
    ∷ engine_request 1 0 0 0 gets (0 ∷ 2 ∷ [])
    ∷ engine_request 1 0 0 0 gets (0 ∷ 3 ∷ [])
    ∷ engine_request 1 0 0 0 gets (0 ∷ 4 ∷ [])
    ∷ engine_request 1 0 0 0 gets (0 ∷ 5 ∷ [])
    ∷ engine_request 1 0 0 0 gets (0 ∷ 6 ∷ [])
    ∷ engine_request 1 0 0 0 gets (0 ∷ 7 ∷ [])
    ∷ engine_request 1 0 0 0 gets (0x82 ∷ [])
    -- the record is held; the edge is not permitted; all eight slots are occupied
    ∷ asks 0x19 0 image gets (0x81 ∷ [])
    ∷ asks 0x1b 1 image gets (0x85 ∷ [])
    ∷ asks 0x19 1 image gets (0x82 ∷ [])
    ∷ asks 0x31 0 [] gets (0 ∷ [])
    ∷ step 5 gets (0 ∷ 0 ∷ [])
    ∷ collection 5 (9 ∷ []) gets (0 ∷ 1 ∷ 0 ∷ [])
    ∷ asks 0x19 1 image gets (0 ∷ 5 ∷ [])
    ∷ all_steps 5 16
    ++ collection 5 [] gets (0 ∷ 0 ∷ [])
    ∷ engine_request 2 1 0 0 gets (0 ∷ 5 ∷ [])
    ∷ all_steps 5 2
    ++ collection 5 (9 ∷ 9 ∷ 9 ∷ 9 ∷ []) gets (0 ∷ 4 ∷ 1 ∷ 0x6d ∷ 0x6e ∷ 0x6f ∷ [])
    ∷ []

pub full_answers : answers_from start (lent_of full) ≡ given_by full
unfolding everything full
full_answers = refl
