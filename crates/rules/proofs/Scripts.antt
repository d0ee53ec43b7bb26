-- Lists of calls beside the answers that document 01 gives them, and the memory and bytes that they are tried with.
use Rattle.std.specs.Prelude.{Bool, false, List, [], ◌∷◌, ◌++◌, map, ℕ, zero, suc, ◌+◌, replicate, Result, Ok, Err}
use Rattle.words.specs.Maps.{map_from}
use Rattle.words.specs.Parts.{part, splice}
use Rattle.words.specs.Words.{bits, le_value, le32, le_bytes, be_value, be32, be_bytes}
use Rattle.hcr.specs.Register.{param_at, command_of, well_formed18, well_formed, read_rows, read_of, word18, le_words, words_of, register_of}
use Rattle.context.specs.Init.{logs_of, init_rows, init_of}
use Rattle.context.specs.Layout.{ranges_hold, fits_store, is_record, record_at, bytes_of, same_record}
use Rattle.edges.specs.States.{is_service}
use Rattle.edges.specs.Edges.{permits_edge, is_active, write_keeps, write_fails, is_sending, write_stops, permits_write, permits_some}
use Rattle.edges.specs.Edges.{judge_of}
use Rattle.commands.specs.Commands.{read_op, read_command}
use Rattle.engines.specs.Engines.{read_number, state_from, read_engine}
use Rattle.requests.specs.declared.Request.{Request}
use Rattle.request_table.specs.Records.{numbers_hold}
use Rattle.burst_table.specs.Sizes.{slot_count, room_size}
use Rattle.checks.specs.Fields.{state_of, service_of, is_hardware, cq_named, eq_named}
use Rattle.answers.specs.Answers.{state_answer, next_answer, whole_answer, joined_answer}
use Rattle.byte_rule.specs.Bytes.{with_state, taken_byte, edge_byte, sw2hw_byte, resize_byte, psn_byte, write_byte}
use Rattle.bursts.specs.Moves.{written_part, write_at, copy_at}
use Rattle.bursts.specs.Room.{room_of, front_of, room_filled, room_copied}
use Rattle.records.specs.Memory.{record_in, burst_place, written, read_out, permission_in, zeroed}
use Rattle.rows.specs.Rows.{empty_row, any_slot, any_rest, lowest_free}
use Rattle.holds.specs.Holds.{clash_records, held_against, read_held}
use Rattle.possible.specs.Possible.{command_before, two_commands, holds_clash, open_impossible, impossible}
use Rattle.rules.specs.Numbers.{submit_number, submit_values, step_number, step_values, collect_number, reset_number}
use Rattle.rules.specs.World.{World, world, hca_of, status_at, bad_row, bad_store, bad_lent, bad_state}
use Rattle.rules.specs.Admission.{decide_place, decide_verdict, decide_request, world_opened, world_closed, world_taken}
use Rattle.rules.specs.Commands.{decide_init, decide_found, busy, decide_op, decide_register, decide_command, submit_command}
use Rattle.rules.specs.Engines.{decide_eq, decide_cq, decide_joined, decide_asked, decide_number, decide_engine, submit_engine}
use Rattle.rules.specs.Steps.{memory_moved, room_moved, slot_moved, world_moved, step_on, step_of}
use Rattle.rules.specs.Collections.{answer_at, world_freed, collect_finished, collect_on, collect_of}
use Rattle.rules.specs.Resets.{reset_of}
use Rattle.rules.specs.Names.{arguments_of}
use Rattle.rules.specs.Book.{Fed, on_record}
use Rattle.rules.specs.Calls.{Call, command, step, Answer, submitted, stepped, collected, reset_done, answer_to, initialises}
use Rattle.rules.specs.Lending.{Lent, LentCall, answer_lent, world_lent}
use Rattle.rules.specs.declared.Refusal.{Refusal}

-- ---- a script: calls with their answers

-- a call, what it is lent, and what it gets: document 01's number, then the slot, the bursts left, or how many bytes were collected
-- and the whole buffer
pub record Line : Type 0 where
  pub lent : Lent
  pub call : Call
  pub gives : List ℕ

-- how much there is of the room and of the store: a room that is 2 bytes longer than needed, and a store that is 32 bytes longer
abbrev pub room_there : ℕ
room_there = room_size + 2

abbrev pub store_there : ℕ
store_there = 800

-- lent: so many slots, and so many bytes of room and store
abbrev pub lending : ℕ → ℕ → ℕ → Lent
lending slots room store = record { slots = slots; room = room; store = store }

-- all that there is, and as little of it as is not refused
abbrev pub all : Lent
all = lending slot_count room_there store_there

abbrev pub enough : Lent
enough = lending slot_count room_size store_there

abbrev pub whole : Call → LentCall
whole c = record { lent = all; call = c }

infix 80 ◌gets◌
abbrev pub ◌gets◌ : Call → List ℕ → Line
c gets a = record { lent = all; call = c; gives = a }

-- the same line, with less or more lent
infix 70 ◌on◌
abbrev pub ◌on◌ : Line → Lent → Line
x on l = record { lent = l; call = x.call; gives = x.gives }

abbrev pub calls_of : List Line → List Call
calls_of l = map (λ (x : Line). x.call) l

abbrev pub lent_of : List Line → List LentCall
lent_of l = map (λ (x : Line). record { lent = x.lent; call = x.call }) l

abbrev pub given_by : List Line → List (List ℕ)
given_by l = map (λ (x : Line). x.gives) l

abbrev pub collect_shown : Result ℕ Refusal → List ℕ → List ℕ
collect_shown (Ok n) out = n ∷ out
collect_shown (Err c) out = []

abbrev pub shown : Answer → List ℕ
shown (submitted a) = submit_number a ∷ submit_values a
shown (stepped a) = step_number a ∷ step_values a
shown (collected a out) = collect_number a ∷ collect_shown a out
shown (reset_done a) = reset_number a ∷ []

-- the answers of a list of calls, each of which gets what the one before it left, as much of it as it is lent
unfoldable pub answers_from : World → List LentCall → List (List ℕ)
answers_from w [] = []
answers_from w (c ∷ cs) = shown (answer_lent w c) ∷ answers_from (world_lent w c) cs

-- all steps of a request in slot k that has n bursts to move
abbrev pub all_steps : ℕ → ℕ → List Line
all_steps k zero = []
all_steps k (suc n) = step k gets (0 ∷ n ∷ []) ∷ all_steps k n

-- the same, by turns lent enough and lent all
abbrev pub by_turns : ℕ → ℕ → List Line
by_turns k zero = []
by_turns k (suc zero) = step k gets (0 ∷ 0 ∷ []) on enough ∷ []
by_turns k (suc (suc n)) = step k gets (0 ∷ suc n ∷ []) on enough ∷ step k gets (0 ∷ n ∷ []) ∷ by_turns k n

-- what the book is fed of a slot's request
abbrev pub asked : Request → List ℕ → Fed
asked q mail = on_record (arguments_of q) mail

-- ---- bytes

-- n numbers, from i on
abbrev pub up_from : ℕ → ℕ → List ℕ
up_from i zero = []
up_from i (suc n) = i ∷ up_from (suc i) n

-- the register's 28 bytes: E, op, op_modifier and in_modifier
unfoldable pub hcr_of : Bool → ℕ → ℕ → ℕ → List ℕ
hcr_of e op m n =
    register_of (record { in_param = 0; in_modifier = n; out_param = 0; token = 0; event = e; op_modifier = m; op = op })

-- a command with op_modifier 0: op, in_modifier and mailbox
abbrev pub asks : ℕ → ℕ → List ℕ → Call
asks op n mail = command (hcr_of false op 0 n) mail

-- INIT_HCA's mailbox, 64 bytes: 2 queue pairs, 2 completion queues, 1 event queue and 1 memory region, 768 bytes in use
unfoldable pub init_mail : List ℕ
init_mail = replicate 15 0 ++ (1 ∷ replicate 7 0 ++ (1 ∷ replicate 40 0))

-- an image of a queue pair, 164 bytes: byte i is i, but for byte 0, whose state bits (7) are not read; the type, byte 1, is UC
unfoldable pub image : List ℕ
image = 0x75 ∷ up_from 1 163

-- ---- memory

-- before the initialisation: closed, with counts and a length that no INIT_HCA left
unfoldable pub before : World
before =
    world (hca_of false (record { qps = 99; cqs = 99; eqs = 99; mpts = 99 }) 7) empty_row
    (replicate store_there 0xee)
    (replicate room_there 0xdd)

-- INIT_HCA, and what it leaves
abbrev pub first : LentCall
first = whole (asks 0x07 0 init_mail)

unfoldable pub start : World
start = world_lent before first

-- ---- Every definition that a call computes with, by one name: a proof by computation unfolds it.

-- bytes, words and the register
unfoldable pub with_bytes : Unit {0}
unfolding part splice map_from bits le_value le32 le_bytes be_value be32 be_bytes
with_bytes = tt

unfoldable pub with_register : Unit {0}
unfolding with_bytes param_at command_of well_formed18 well_formed read_rows read_of word18 le_words words_of register_of
with_register = tt

-- records, edges and requests
unfoldable pub with_fields : Unit {0}
unfolding state_of service_of is_hardware is_service cq_named eq_named
with_fields = tt

unfoldable pub with_records : Unit {0}
unfolding with_fields logs_of init_rows init_of ranges_hold fits_store is_record record_at bytes_of same_record
with_records = tt

unfoldable pub with_edges : Unit {0}
unfolding permits_edge is_active write_keeps write_fails is_sending write_stops permits_write permits_some judge_of
with_edges = tt

unfoldable pub with_requests : Unit {0}
unfolding read_op read_command read_number state_from read_engine numbers_hold state_answer next_answer whole_answer joined_answer
with_requests = tt

-- bursts, memory, room and row
unfoldable pub with_bursts : Unit {0}
unfolding with_state taken_byte edge_byte sw2hw_byte resize_byte psn_byte write_byte written_part write_at copy_at
with_bursts = tt

unfoldable pub with_memories : Unit {0}
unfolding room_of front_of room_filled room_copied record_in burst_place written read_out permission_in zeroed
with_memories = tt

unfoldable pub with_rows : Unit {0}
unfolding any_slot any_rest lowest_free clash_records held_against read_held command_before two_commands holds_clash open_impossible impossible
with_rows = tt

-- the calls
unfoldable pub with_tests : Unit {0}
unfolding status_at bad_row bad_store bad_lent bad_state busy initialises
with_tests = tt

unfoldable pub with_names : Unit {0}
unfolding decide_eq decide_cq decide_joined
with_names = tt

unfoldable pub with_decisions : Unit {0}
unfolding with_names decide_place decide_verdict decide_request decide_init decide_found decide_op decide_register decide_asked decide_number
with_decisions = tt

unfoldable pub with_submissions : Unit {0}
unfolding with_decisions decide_command submit_command decide_engine submit_engine world_opened world_closed world_taken
with_submissions = tt

unfoldable pub with_calls : Unit {0}
unfolding memory_moved room_moved slot_moved world_moved step_on step_of answer_at world_freed collect_finished collect_on collect_of reset_of
with_calls = tt

unfoldable pub below : Unit {0}
unfolding with_register with_records with_edges with_requests with_bursts with_memories with_rows
below = tt

unfoldable pub everything : Unit {0}
unfolding below with_tests with_submissions with_calls answers_from hcr_of init_mail image before start
everything = tt
