-- DEMAND 3.
--
-- What is claimed, and of what: of the rules in this crate (Commands, Engines, Steps, Collections, Resets), to which the model's
-- operations are to be proved equal. After every call that begins a list (an initialisation), and every list of calls, each of which
-- gets the state that the call before left and is lent as much of the memory as its caller likes, up to the next such call or reset that
-- answers 0: the finished requests, given one at a time and whole to the plain book (Book) in the order of acceptance, are all
-- accepted; every record that nobody is writing, every answer, and every refusal because of a record's state is the book's. One
-- statement about the whole list. The proof is in Proofs/Serial; it assumes nothing.
--
-- What is not claimed: that a request is ever finished, or which calls are accepted: that is what the rules say, call by call. Nor
-- is anything claimed of calls between which somebody else writes the lent memory: such a call is one of another list. Calls that are
-- refused for what they are lent, resets among them, are calls of the list and go on.
use Rattle.std.specs.Prelude.{◌≡◌, true, List, [], ◌∷◌, ◌++◌, ℕ, eqb, replicate}
use Rattle.words.specs.Choice.{pick}
use Rattle.context.specs.Layout.{is_record, record_size}
use Rattle.context.specs.declared.Record.{Record}
use Rattle.context.specs.declared.Record.TheVariants as rec
use Rattle.request_table.specs.Records.{command_record, command_writes}
use Rattle.records.specs.Memory.{record_in}
use Rattle.slots.specs.declared.Status.{Status}
use Rattle.slots.specs.declared.Status.TheVariants.{Free, Running, Finished}
use Rattle.rules.specs.World.{World, status_at}
use Rattle.rules.specs.Collections.{answer_at}
use Rattle.rules.specs.Names.{Arguments, command, read_state, read_next, read_all, write, read_joined}
use Rattle.rules.specs.Book.{Book, Fed, on_record, close_hca, nop, book_number, book_reply, book_after}
use Rattle.rules.specs.Calls.{Note, nothing, refused, accepted, finished, emptied, note_of}
use Rattle.rules.specs.Lending.{LentCall, answer_lent, world_lent, begins_lent, stops_lent, proper}

-- ---- The journal: the requests of a list of calls in the order of submission, from the calls and their answers alone, and the
-- counts of the initialisation, which no call of the list changes (`Counts` in Frames).

pub data Entry : Type 0 where
  -- refused because of its record's state, with this number
  turned_away : Fed → ℕ → Entry
  -- finished and, if it took a slot, collected, with this answer
  answered : Fed → List ℕ → Entry
  -- accepted into this slot and not collected yet
  in_slot : Fed → ℕ → Entry

-- the request in slot k has been collected
abbrev pub collected_from : ℕ → List ℕ → List Entry → List Entry
collected_from k a [] = []
collected_from k a (turned_away f n ∷ J) = turned_away f n ∷ collected_from k a J
collected_from k a (answered f b ∷ J) = answered f b ∷ collected_from k a J
collected_from k a (in_slot f j ∷ J) = pick (eqb j k) (answered f a) (in_slot f j) ∷ collected_from k a J

abbrev pub noted : Note → List Entry → List Entry
noted nothing J = J
noted (refused f n) J = J ++ turned_away f n ∷ []
noted (accepted f k) J = J ++ in_slot f k ∷ []
noted (finished f a) J = J ++ answered f a ∷ []
noted (emptied k a) J = collected_from k a J

-- ---- The run of a list of calls

pub record Run : Type 0 where
  pub world : World
  pub journal : List Entry

-- each call gets the state and the memory that the call before left, as much of it as it is lent; the list ends before a call that
-- begins another, or a reset that answers 0
abbrev pub run_from : World → List Entry → List LentCall → Run
run_from w J [] = record { world = w; journal = J }
run_from w J (c ∷ cs) =
    pick (stops_lent w c) (record { world = w; journal = J })
    (run_from (world_lent w c) (noted (note_of w.hca.logs c.call (answer_lent w c)) J) cs)

-- ---- What is said of a run

pub record Done : Type 0 where
  pub what : Fed
  pub gave : List ℕ

abbrev pub done : Fed → List ℕ → Done
done f a = record { what = f; gave = a }

-- Of a request in a slot: it is finished by its last burst, and its answer is what collecting it wrote or, if it is uncollected, would
-- write to a buffer long enough (01, The plain book of demand 3).
abbrev pub in_slot_done : World → Fed → ℕ → Status → List Done → List Done
in_slot_done w f k Free l = l
in_slot_done w f k (Running m q) l = l
in_slot_done w f k (Finished m q) l = done f (answer_at w k q) ∷ l

-- the requests finished by the end of the run, in the order of acceptance, each with its answer
abbrev pub finished_in : World → List Entry → List Done
finished_in w [] = []
finished_in w (turned_away f n ∷ J) = finished_in w J
finished_in w (answered f a ∷ J) = done f a ∷ finished_in w J
finished_in w (in_slot f k ∷ J) = in_slot_done w f k (status_at k w.row) (finished_in w J)

-- a request writes the record: a command that writes, its own, and an engine write its queue pair
abbrev pub WritesRecord : Arguments → Record → Type 0
WritesRecord (command c) X = (command_writes c ≡ true) × (command_record c ≡ X)
WritesRecord (read_state n) X = ⊥
WritesRecord (read_next n) X = ⊥
WritesRecord (read_all n) X = ⊥
WritesRecord (write p s n psn) X = rec.Qp n ≡ X
WritesRecord (read_joined n) X = ⊥

abbrev pub Writing : Fed → Record → Type 0
Writing (on_record a mail) X = WritesRecord a X
Writing close_hca X = ⊥
Writing nop X = ⊥

-- no unfinished request is writing the record
abbrev pub NotWriting : Fed → Record → Status → Type 0
NotWriting f X Free = ¬ Writing f X
NotWriting f X (Running m q) = ¬ Writing f X
NotWriting f X (Finished m q) = Unit {0}

abbrev pub Unwritten : World → Record → List Entry → Type 0
Unwritten w X [] = Unit {0}
Unwritten w X (turned_away f n ∷ J) = Unwritten w X J
Unwritten w X (answered f a ∷ J) = Unwritten w X J
Unwritten w X (in_slot f k ∷ J) = NotWriting f X (status_at k w.row) × Unwritten w X J

-- the book, given requests one at a time, each whole
abbrev pub given : Book → List Done → Book
given b [] = b
given b (d ∷ l) = given (book_after d.what b) l

-- It starts open, with the records that the initialisation left; a number past its count names no record, and has no bytes.
abbrev pub book_of : World → Book
book_of w = record {
  opened = true;
  counts = w.hca.logs;
  bytes = λ X. pick (is_record w.hca.logs X) (record_in w.hca.logs w.memory X) [];
}

-- ---- The claim, of a run that began with the book b and has come to the world w and the journal J

pub record Demand3 (b : Book) (w : World) (J : List Entry) : Type 0 where
  -- the book accepts every finished request, given those accepted before it: it gives it no number
  pub accepts : (A B : List Done) (d : Done) → finished_in w J ≡ A ++ d ∷ B → book_number d.what (given b A) ≡ 0
  -- every record that nobody is writing is the book's, byte for byte
  pub records : (X : Record) → is_record w.hca.logs X ≡ true → Unwritten w X J
      → record_in w.hca.logs w.memory X ≡ (given b (finished_in w J)).bytes X
  -- the answer of every finished request is the book's
  pub answers : (A B : List Done) (d : Done) → finished_in w J ≡ A ++ d ∷ B → book_reply d.what (given b A) ≡ d.gave
  -- every refusal because of a record's state has the same number from the book, given the finished requests accepted before it and no
  -- others
  pub refusals : (A B : List Entry) (f : Fed) (n : ℕ) → J ≡ A ++ turned_away f n ∷ B → book_number f (given b (finished_in w A)) ≡ n

-- The statement: any memory before the first call, which begins a list; any list of calls after it. What is compared at the end is the
-- memory that every call of the list has to be lent (`proper`).
abbrev pub Statement : Type 0
Statement =
    (before : World) (first : LentCall) → begins_lent before first ≡ true
    → (calls : List LentCall)
    → let start : World = world_lent before first in
    let end : Run = run_from start [] calls in
    Demand3 (book_of (proper start)) (proper end.world) end.journal

-- Of that book at its start: after INIT_HCA every record is zero.
abbrev pub Zeroed : Type 0
Zeroed =
    (before : World) (first : LentCall) → begins_lent before first ≡ true
    → let start : World = world_lent before first in
    (X : Record) → is_record start.hca.logs X ≡ true → (book_of (proper start)).bytes X ≡ replicate (record_size X) 0
