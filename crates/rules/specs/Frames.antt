-- FRAME: what a call changes, and what it leaves.
--
-- What is claimed, for every world and every call:
-- * `Refusals`: a refusal changes nothing, neither state, row, memory and room nor the buffer.
-- * `Steps`, `Collects`: a step that is not refused answers the bursts that are then left, the burst table's total less those moved, and
--   its slot runs with one burst more, or is finished with all; a collection that is not refused answers the length of the answer, writes
--   the answer at the front of the buffer, and frees its slot.
-- * `Written`, `Copied`: a step that is not refused makes exactly the next burst of its request, a write in its record by the byte
--   rule, leaving the room, a read as a copy in the slot's part of the room, leaving the memory.
-- * `BurstsWhole`, `BurstsRead`: all bursts of a request make its whole effect, or all that its answer reads.
-- * `Records`, `Elsewhere`, `BehindKept`: nothing else in the store. Of every record, a call other than an initialisation makes nothing,
--   or the burst of a running request that writes it; no byte outside that burst changes; and bytes behind the records never change, by
--   an initialisation neither.
-- * `SlotTaken`, `Rooms`: a submission that is accepted puts the needed front of its mailbox at the front of its slot's part of the room
--   and leaves the rest of the part; no call changes a byte in the part of a slot that it neither takes nor steps.
-- * `Rows`, `Emptied`: a call changes no slot but the one that it takes, steps or collects; a reset that answers 0 empties all, and
--   closes.
-- * `Opens`, `Counts`: a call that is not done at once, as INIT_HCA, CLOSE_HCA, NOP and reset are, leaves the state; and only an
--   initialisation changes the counts and the length that it remembers.
-- * `Buffers`, `Sizes`: a collection changes no byte of the buffer behind its answer; row, store, room and buffer keep their lengths.
-- * `MailboxFront`, `RegisterFront`, `RoomFront`: no answer and nothing left depends on the mailbox behind the needed bytes, on the HCR
--   behind its 28, or on the room behind its eight parts.
--
-- What is not claimed here: which calls are refused, and with which number; that is what the rules say.
use Rattle.std.specs.Prelude.{◌≡◌, Bool, true, false, List, ◌++◌, ℕ, ◌+◌, ◌-◌, ◌/◌, ◌≤◌, ◌<◌, eqb, ltb, length, get_or, Result, Ok, Err}
use Rattle.words.specs.Choice.{pick}
use Rattle.words.specs.Parts.{splice}
use Rattle.context.specs.Layout.{is_record, record_size}
use Rattle.context.specs.declared.Record.{Record}
use Rattle.requests.specs.declared.Request.{Request}
use Rattle.request_table.specs.Records.{record_of, records_of, writes_of}
use Rattle.mailboxes.specs.Mailboxes.{need_of}
use Rattle.burst_table.specs.Bursts.{joined_size, bursts_of, total_of}
use Rattle.burst_table.specs.Sizes.{slot_room, room_size}
use Rattle.answers.specs.Answers.{answer_of, answer_size}
use Rattle.byte_rule.specs.Bytes.{byte_of}
use Rattle.bursts.specs.Bursts.{burst, after}
use Rattle.bursts.specs.Copies.{copy, copies}
use Rattle.bursts.specs.Room.{room_of, front_of}
use Rattle.records.specs.Memory.{record_in, joined_in, InBurst, Behind}
use Rattle.slots.specs.declared.Status.TheVariants.{Free, Running, Finished}
use Rattle.rules.specs.World.{World, with_room, status_at}
use Rattle.rules.specs.Commands.{submit_command}
use Rattle.rules.specs.Steps.{step_of}
use Rattle.rules.specs.Collections.{answer_at, collect_of}
use Rattle.rules.specs.Whole.{whole_effect}
use Rattle.rules.specs.Names.{Arguments, needed, found, named_in}
use Rattle.rules.specs.Book.{on_record}
use Rattle.rules.specs.Calls.{Call, command, engine_request, step, collection, resetting, Answer, submitted, stepped}
use Rattle.rules.specs.Calls.{collected, reset_done, Asked, asks_init, asks_close, asks_nop, asks_request, asks_nothing}
use Rattle.rules.specs.Calls.{accepted, answer_to, world_after, command_asked, note_of, is_done, begins, reset_ends}
use Rattle.rules.specs.declared.Refusal.{Refusal}
use Rattle.rules.specs.declared.Submission.{Submission}
use Rattle.rules.specs.declared.Submission.TheVariants as submit

-- ---- a refusal

abbrev pub refused_submit : Result Submission Refusal → Bool
refused_submit (Ok submit.Done) = false
refused_submit (Ok (submit.Accepted k)) = false
refused_submit (Err c) = true

abbrev pub refused_step : Result ℕ Refusal → Bool
refused_step (Ok n) = false
refused_step (Err c) = true

abbrev pub refused_collect : Result ℕ Refusal → Bool
refused_collect (Ok n) = false
refused_collect (Err c) = true

abbrev pub refused_reset : Result (Unit {0}) Refusal → Bool
refused_reset (Ok tt) = false
refused_reset (Err c) = true

abbrev pub refused_by : Answer → Bool
refused_by (submitted a) = refused_submit a
refused_by (stepped a) = refused_step a
refused_by (collected a out) = refused_collect a
refused_by (reset_done a) = refused_reset a

-- what the buffer of a collection holds; other calls have none
abbrev pub buffer_of : Call → List ℕ → List ℕ
buffer_of (command bytes mail) l = l
buffer_of (engine_request n index psn state) l = l
buffer_of (step k) l = l
buffer_of (collection k out) l = out
buffer_of resetting l = l

abbrev pub buffer_after : Answer → List ℕ → List ℕ
buffer_after (submitted a) l = l
buffer_after (stepped a) l = l
buffer_after (collected a out) l = out
buffer_after (reset_done a) l = l

-- Every refusal returns its number alone and leaves everything (01, Numbers returned).
abbrev pub Refusals : Type 0
Refusals =
    (w : World) (c : Call) (l : List ℕ) → refused_by (answer_to w c) ≡ true
    → (world_after w c ≡ w) × (buffer_after (answer_to w c) l ≡ buffer_of c l)

-- ---- a step and a collection, in the slot that they name

-- q runs in slot k with m bursts moved, and the step is not refused: its answer has the bursts still to move, and the last burst finishes
-- the request (01, Bursts, slots and holds)
abbrev pub Steps : Type 0
Steps =
    (w : World) (k : ℕ) (q : Request) (m : ℕ) → status_at k w.row ≡ Running m q → refused_step (step_of w k).answer ≡ false
    → ((step_of w k).answer ≡ Ok (total_of q - (m + 1)))
    × (status_at k (step_of w k).world.row ≡ pick (ltb (m + 1) (total_of q)) (Running (m + 1) q) (Finished (total_of q) q))

-- q is finished in slot k, and the collection is not refused
abbrev pub Collects : Type 0
Collects =
    (w : World) (k : ℕ) (out : List ℕ) (q : Request) (m : ℕ) → status_at k w.row ≡ Finished m q
    → refused_collect (collect_of w k out).answer ≡ false
    → ((collect_of w k out).answer ≡ Ok (answer_size q))
    × (status_at k (collect_of w k out).world.row ≡ Free)
    × ((collect_of w k out).out ≡ splice 0 (answer_at w k q) out)

-- ---- the records

-- A step moves one burst of its slot's request, and exactly that burst of the record is changed or copied (01, Bursts, slots and holds).
-- Of a write, by the byte rule, with the mailbox bytes in the room:
abbrev pub Written : Type 0
Written =
    (w : World) (k : ℕ) (q : Request) (m : ℕ) → status_at k w.row ≡ Running m q → refused_step (step_of w k).answer ≡ false
    → writes_of q ≡ true
    → (record_in w.hca.logs (step_of w k).world.memory (record_of q)
    ≡ burst (byte_of q (front_of k q w.room)) (get_or (bursts_of q) m 0) (record_in w.hca.logs w.memory (record_of q)))
    × ((step_of w k).world.room ≡ w.room)

-- Of a read, to the offset in the slot's part of the room that the burst has in the request's records:
abbrev pub Copied : Type 0
Copied =
    (w : World) (k : ℕ) (q : Request) (m : ℕ) → status_at k w.row ≡ Running m q → refused_step (step_of w k).answer ≡ false
    → writes_of q ≡ false
    → (room_of k (step_of w k).world.room
    ≡ copy (get_or (bursts_of q) m 0) (joined_in w.hca.logs w.memory (records_of q)) (room_of k w.room))
    × ((step_of w k).world.memory ≡ w.memory)

-- All bursts of a write, one after the other, make its whole effect, as the book has it; of a read, the room then answers as its
-- records do, one behind the other.
abbrev pub BurstsWhole : Type 0
BurstsWhole =
    (q : Request) (mail r : List ℕ) → writes_of q ≡ true → need_of q ≤ length mail → length r ≡ record_size (record_of q)
    → after (byte_of q mail) (bursts_of q) r ≡ whole_effect q mail r

abbrev pub BurstsRead : Type 0
BurstsRead =
    (q : Request) (r room : List ℕ) → writes_of q ≡ false → length r ≡ joined_size (records_of q) → length room ≡ slot_room
    → answer_of q (copies (bursts_of q) r room) ≡ answer_of q r

-- What a call makes of a record: nothing, or, where it steps a slot whose running request writes that record, exactly the next burst
-- of it by the byte rule.
pub data Change (w : World) (c : Call) (X : Record) (before after : List ℕ) : Type 0 where
  kept : after ≡ before → Change w c X before after
  burst_moved : (k : ℕ) (q : Request) (m : ℕ) → c ≡ step k → status_at k w.row ≡ Running m q → m < total_of q → writes_of q ≡ true
      → record_of q ≡ X → length before ≡ record_size X
      → after ≡ burst (byte_of q (front_of k q w.room)) (get_or (bursts_of q) m 0) before → Change w c X before after

abbrev pub Records : Type 0
Records =
    (w : World) (c : Call) → begins w c ≡ false → (X : Record) → is_record w.hca.logs X ≡ true
    → Change w c X (record_in w.hca.logs w.memory X) (record_in w.hca.logs (world_after w c).memory X)

-- Nothing else in the store changes: byte i lies in the burst that a step writes.
pub data Changes (w : World) (i : ℕ) : Call → Type 0 where
  in_burst : (k : ℕ) (q : Request) (m : ℕ) → status_at k w.row ≡ Running m q → writes_of q ≡ true → InBurst w.hca.logs q m i
      → Changes w i (step k)

abbrev pub Elsewhere : Type 0
Elsewhere =
    (w : World) (c : Call) → begins w c ≡ false → (i : ℕ) → ¬ Changes w i c
    → get_or (world_after w c).memory.store i 0 ≡ get_or w.memory.store i 0

-- INIT_HCA leaves the bytes that are not in use (01, The context store), and no other call changes them: those behind the records
abbrev pub BehindKept : Type 0
BehindKept =
    (w : World) (c : Call) (i : ℕ) → Behind (world_after w c).hca.logs i
    → get_or (world_after w c).memory.store i 0 ≡ get_or w.memory.store i 0

-- ---- the slots and the room

-- Submission puts the needed mailbox bytes at the front of the slot's part of the room, and takes the lowest free slot (01, Bursts, slots
-- and holds): a, fed with the needed front of the mailbox, was accepted into slot k, where a request runs that was asked for by a; a joined
-- read has the names that the records have (02, wish 2).
pub record Taken (w u : World) (a : Arguments) (front : List ℕ) (k : ℕ) : Type 0 where
  pub request : Request
  pub named : named_in w.hca.logs (record_in w.hca.logs w.memory) a ≡ found request
  pub runs : status_at k u.row ≡ Running 0 request
  pub filled : room_of k u.room ≡ splice 0 front (room_of k w.room)

abbrev pub SlotTaken : Type 0
SlotTaken =
    (w : World) (c : Call) (a : Arguments) (front : List ℕ) (k : ℕ)
    → note_of w.hca.logs c (answer_to w c) ≡ accepted (on_record a front) k → Taken w (world_after w c) a front k

-- the slot that a submission takes
abbrev pub takes_slot : Answer → ℕ → Bool
takes_slot (submitted (Ok submit.Done)) j = false
takes_slot (submitted (Ok (submit.Accepted k))) j = eqb k j
takes_slot (submitted (Err c)) j = false
takes_slot (stepped a) j = false
takes_slot (collected a out) j = false
takes_slot (reset_done a) j = false

-- the slot that a step names
abbrev pub steps_slot : Call → ℕ → Bool
steps_slot (command bytes mail) j = false
steps_slot (engine_request n index psn state) j = false
steps_slot (step k) j = eqb k j
steps_slot (collection k out) j = false
steps_slot resetting j = false

-- the slot that a collection names
abbrev pub collects_slot : Call → ℕ → Bool
collects_slot (command bytes mail) j = false
collects_slot (engine_request n index psn state) j = false
collects_slot (step k) j = false
collects_slot (collection k out) j = eqb k j
collects_slot resetting j = false

-- No other room byte changes, and collecting leaves the room as it stands (01, the same section): byte i lies in the part of slot
-- i / slot_room, if there is one.
abbrev pub Rooms : Type 0
Rooms =
    (w : World) (c : Call) (i : ℕ) → takes_slot (answer_to w c) (i / slot_room) ≡ false → steps_slot c (i / slot_room) ≡ false
    → get_or (world_after w c).room i 0 ≡ get_or w.room i 0

-- a reset that answers 0
abbrev pub empties : Answer → Bool
empties (submitted a) = false
empties (stepped a) = false
empties (collected a out) = false
empties (reset_done a) = reset_ends a

abbrev pub Rows : Type 0
Rows =
    (w : World) (c : Call) (j : ℕ) → empties (answer_to w c) ≡ false → takes_slot (answer_to w c) j ≡ false → steps_slot c j ≡ false
    → collects_slot c j ≡ false → status_at j (world_after w c).row ≡ status_at j w.row

-- it empties all slots and closes
abbrev pub Emptied : Type 0
Emptied =
    (w : World) (c : Call) → empties (answer_to w c) ≡ true
    → ((j : ℕ) → status_at j (world_after w c).row ≡ Free) × ((world_after w c).hca.«open» ≡ false)

-- ---- the state, and the lengths

-- a submission or a reset that is done at once
abbrev pub at_once : Answer → Bool
at_once (submitted a) = is_done a
at_once (stepped a) = false
at_once (collected a out) = false
at_once (reset_done a) = reset_ends a

abbrev pub Opens : Type 0
Opens = (w : World) (c : Call) → at_once (answer_to w c) ≡ false → (world_after w c).hca ≡ w.hca

abbrev pub Counts : Type 0
Counts =
    (w : World) (c : Call) → begins w c ≡ false
    → ((world_after w c).hca.logs ≡ w.hca.logs) × ((world_after w c).hca.store_len ≡ w.hca.store_len)

abbrev pub Sizes : Type 0
Sizes =
    (w : World) (c : Call)
    → (length (world_after w c).row ≡ length w.row)
    × (length (world_after w c).memory.store ≡ length w.memory.store)
    × (length (world_after w c).room ≡ length w.room)

-- how many bytes of the buffer an answer has
abbrev pub answer_bytes : Result ℕ Refusal → ℕ
answer_bytes (Ok n) = n
answer_bytes (Err c) = 0

-- the answer is written at the front of the lent buffer, and the rest of it stays
abbrev pub Buffers : Type 0
Buffers =
    (w : World) (k : ℕ) (out : List ℕ)
    → (length (collect_of w k out).out ≡ length out)
    × ((i : ℕ) → answer_bytes (collect_of w k out).answer ≤ i → get_or (collect_of w k out).out i 0 ≡ get_or out i 0)

-- ---- only the needed front is read

-- the mailbox bytes that a submission needs, by what it asks for; INIT_HCA's are 64 (01, The context store)
abbrev pub needed_by : Asked → ℕ
needed_by asks_init = 64
needed_by asks_close = 0
needed_by asks_nop = 0
needed_by (asks_request a) = needed a
needed_by asks_nothing = 0

-- Longer mailboxes are accepted and only the needed front is read (01, Commands).
abbrev pub MailboxFront : Type 0
MailboxFront =
    (w : World) (bytes mail tail : List ℕ) → needed_by (command_asked w.hca.logs bytes) ≤ length mail
    → submit_command w bytes (mail ++ tail) ≡ submit_command w bytes mail

-- The register is its first 28 bytes (01, The command register).
abbrev pub RegisterFront : Type 0
RegisterFront =
    (w : World) (bytes tail mail : List ℕ) → 28 ≤ length bytes → submit_command w (bytes ++ tail) mail ≡ submit_command w bytes mail

-- The room is its eight parts: what stands behind them is neither looked at nor changed.
abbrev pub RoomFront : Type 0
RoomFront =
    (w : World) (tail : List ℕ) (c : Call) → room_size ≤ length w.room
    → (answer_to (with_room w (w.room ++ tail)) c ≡ answer_to w c)
    × (world_after (with_room w (w.room ++ tail)) c ≡ with_room (world_after w c) ((world_after w c).room ++ tail))
