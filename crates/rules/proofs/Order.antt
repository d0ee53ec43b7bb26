-- The order of the checks (01, Numbers returned): calls to which two rows of the table of refusals apply, and calls that one row just
-- refuses or just lets pass, each tried alone in a state that is handed in. The answers are written out by hand from document 01. Last,
-- of each cause that is the record's state, that the journal has the refusal and that the book gives the same number.
use Rattle.std.specs.Prelude.{◌≡◌, refl, Bool, true, false, not, List, [], ◌∷◌, ◌++◌, map, ℕ, ◌-◌, eqb, get_or, take, replicate}
use Rattle.words.specs.Parts.{splice}
use Rattle.context.specs.declared.Logs.{Logs}
use Rattle.edges.specs.declared.State.TheVariants.{Rtr}
use Rattle.requests.specs.declared.PsnField.TheVariants.{NextSend}
use Rattle.requests.specs.declared.Command.TheVariants as on
use Rattle.requests.specs.declared.EngineRequest.TheVariants as engine
use Rattle.requests.specs.declared.Request.{Request}
use Rattle.requests.specs.declared.Request.TheVariants as request
use Rattle.burst_table.specs.Sizes.{room_size}
use Rattle.slots.specs.Slots.{slot}
use Rattle.slots.specs.declared.Slot.{Slot}
use Rattle.slots.specs.declared.Status.{Status}
use Rattle.slots.specs.declared.Status.TheVariants.{Free, Running, Finished}
use Rattle.rows.specs.Rows.{empty_row}
use Rattle.records.specs.Memory.{memory}
use Rattle.rules.specs.World.{World, with_hca, with_row, with_memory, with_room, hca_of}
use Rattle.rules.specs.Book.{Book, book_number, gated}
use Rattle.rules.specs.Calls.{Call, command, engine_request, step, collection, resetting, answer_to, world_after}
use Rattle.rules.specs.Calls.{Note, nothing, refused, accepted, finished, emptied, note_of}
use Rattle.rules.specs.Demand3.{book_of}
use Rattle.rules.specs.Frames.{refused_by}
use Rattle.rules.proofs.Scripts.{Line, ◌gets◌, calls_of, given_by, shown, everything}
use Rattle.rules.proofs.Scripts.{store_there, hcr_of, asks, init_mail, image, before, start}

-- a state, and calls that are each tried in it, with all of it
pub record Group : Type 0 where
  pub at : World
  pub lines : List Line

abbrev pub within : World → List Line → Group
within w l = record { at = w; lines = l }

unfoldable pub alone : World → List Call → List (List ℕ)
alone w [] = []
alone w (c ∷ cs) = shown (answer_to w c) ∷ alone w cs

-- ---- the states

abbrev pub rowed : List Slot → World
rowed row = with_row start row

-- the store that was initialised, with bytes before it
abbrev pub stored : List ℕ → World
stored more = with_memory start (memory (more ++ start.memory.store))

-- open or closed, with these counts and these two slots; the others are free
abbrev pub handed : Bool → Logs → Status → Status → World
handed o g s t = with_hca (rowed (slot s ∷ slot t ∷ replicate 6 (slot Free))) (hca_of o g store_there)

abbrev pub counts : Logs
counts = record { qps = 1; cqs = 1; eqs = 0; mpts = 0 }

abbrev pub query : ℕ → Request
query n = request.Command (on.QueryQp (record { 0 = n }))

abbrev pub read_state : ℕ → Request
read_state n = request.Engine (engine.ReadState (record { 0 = n }))

abbrev pub write : ℕ → ℕ → Request
write n psn = request.Engine (engine.Write NextSend Rtr (record { 0 = n }) psn)

-- a command is uncollected, and it writes queue pair 0; a reader of queue pair 0 is running; a read of 4 bytes is finished
unfoldable pub commanded : World
commanded = world_after start (asks 0x19 0 image)

unfoldable pub reading : World
reading = world_after start (engine_request 2 0 0 0)

unfoldable pub has_read : World
has_read = world_after (world_after reading (step 0)) (step 0)

-- queue pair 0 is in RTS, of type RC
abbrev pub in_rts : World → World
in_rts w = with_memory w (memory (splice 0 (0x30 ∷ 0 ∷ []) w.memory.store))

-- ---- the first 0x83 and 0x87, for each of the five calls: NOP, request 1, step, collection, reset

abbrev pub five : List ℕ → List ℕ → List ℕ → List ℕ → List ℕ → List Line
five a b c d e =
    asks 0x31 0 [] gets a ∷ engine_request 1 0 0 0 gets b ∷ step 0 gets c ∷ collection 0 [] gets d ∷ resetting gets e ∷ []

abbrev pub short : List Line
short = five (0x83 ∷ []) (0x83 ∷ []) (0x83 ∷ []) (0x83 ∷ []) (0x83 ∷ [])

-- reset tests neither the store nor the state (01, Bursts, slots and holds)
abbrev pub wrong_store : List Line
wrong_store = five (0x83 ∷ []) (0x83 ∷ []) (0x83 ∷ []) (0x83 ∷ []) (0 ∷ [])

abbrev pub wrong_state : List Line
wrong_state = five (0x87 ∷ []) (0x87 ∷ []) (0x87 ∷ []) (0x87 ∷ []) (0 ∷ [])

unfoldable pub handed_in : List Group
handed_in =
    within start (five (0 ∷ []) (0 ∷ 0 ∷ []) (0x84 ∷ []) (0x84 ∷ []) (0 ∷ []))
    ∷ within before (five (0 ∷ []) (4 ∷ []) (0x84 ∷ []) (0x84 ∷ []) (0 ∷ []))
    -- seven slots, nine slots, a room that is one byte too short
    ∷ within (rowed (take 7 empty_row)) short
    ∷ within (rowed (slot Free ∷ empty_row)) short
    ∷ within (with_room start (replicate (room_size - 1) 0)) short
    -- a store that is one byte longer than at INIT_HCA, or one byte shorter, while open; while closed its length is not tested
    ∷ within (stored (0 ∷ [])) wrong_store
    ∷ within (with_memory start (memory (take (store_there - 1) start.memory.store))) wrong_store
    ∷ within (with_hca (stored (0 ∷ [])) before.hca) (five (0 ∷ []) (4 ∷ []) (0x84 ∷ []) (0x84 ∷ []) (0 ∷ []))
    -- seven slots, and an impossible state: closed with an occupied slot
    ∷ within (with_hca (rowed (slot (Running 0 (read_state 0)) ∷ take 6 empty_row)) before.hca) short
    -- closed with an occupied slot
    ∷ within (handed false counts (Running 0 (read_state 0)) Free) wrong_state
    -- open with counts past their ranges, or past the store
    ∷ within (handed true (record { qps = 0; cqs = 0; eqs = 6; mpts = 0 }) Free Free) wrong_state
    ∷ within (handed true (record { qps = 1; cqs = 1; eqs = 1; mpts = 0 }) Free Free) wrong_state
    -- an index and a PSN that would get 3
    ∷ within (handed true counts Free (Running 0 (read_state 2))) wrong_state
    ∷ within (handed true counts Free (Running 0 (write 0 0x1000000))) wrong_state
    -- running with no burst left to move, finished with one
    ∷ within (handed true counts Free (Running 2 (write 0 0))) wrong_state
    ∷ within (handed true counts Free (Finished 1 (write 0 0))) wrong_state
    -- two commands
    ∷ within (handed true counts (Running 0 (query 0)) (Finished 16 (query 1))) wrong_state
    -- a reader and a writer of one record
    ∷ within (handed true counts (Running 0 (read_state 0)) (Running 0 (write 0 0))) wrong_state
    ∷ []

-- ---- the rows below, top to bottom

-- the edge to INIT with a type of 2
abbrev pub typed2 : List ℕ
typed2 = 0 ∷ 2 ∷ replicate 162 0

unfoldable pub below87 : List Group
below87 =
    -- a register of 27 bytes comes before an impossible state, which comes before the rest
    within (handed false counts (Running 0 (read_state 0)) Free)
    (command (replicate 27 0) [] gets (0x83 ∷ [])
    ∷ command (replicate 28 0) [] gets (0x87 ∷ [])
    ∷ engine_request 7 0 0 0 gets (0x87 ∷ [])
    ∷ step 8 gets (0x87 ∷ [])
    ∷ collection 8 [] gets (0x87 ∷ [])
    ∷ [])
    -- closed: a register that is not well formed or has E, then an op that is not served, then 4, and only then the modifiers
    ∷ within before
    (command (replicate 27 0) [] gets (0x83 ∷ [])
    ∷ command (replicate 28 0) [] gets (3 ∷ [])
    ∷ command (hcr_of true 0x18 0 0) [] gets (3 ∷ [])
    ∷ asks 0x18 0 [] gets (2 ∷ [])
    ∷ engine_request 0 9 0 0 gets (2 ∷ [])
    ∷ asks 0x08 1 [] gets (4 ∷ [])
    ∷ asks 0x16 0 [] gets (4 ∷ [])
    ∷ asks 0x17 0 [] gets (4 ∷ [])
    ∷ asks 0x2c 0 [] gets (4 ∷ [])
    ∷ asks 0x22 0 [] gets (4 ∷ [])
    ∷ asks 0x19 0 [] gets (4 ∷ [])
    ∷ engine_request 1 9 0 0 gets (4 ∷ [])
    ∷ asks 0x07 1 [] gets (3 ∷ [])
    ∷ asks 0x07 0 (take 63 init_mail) gets (0x83 ∷ [])
    ∷ asks 0x07 0 (replicate 64 2) gets (3 ∷ [])
    ∷ asks 0x07 0 (init_mail ++ init_mail) gets (0 ∷ [])
    ∷ [])
    -- a command is uncollected: INIT_HCA while open comes before it, the modifiers behind it
    ∷ within commanded
    (asks 0x18 0 [] gets (2 ∷ [])
    ∷ asks 0x07 1 [] gets (4 ∷ [])
    ∷ asks 0x31 1 [] gets (0x81 ∷ [])
    ∷ asks 0x19 2 [] gets (0x81 ∷ [])
    ∷ engine_request 1 2 0 0 gets (3 ∷ [])
    ∷ engine_request 1 0 0 0 gets (0x81 ∷ [])
    ∷ engine_request 1 1 0 0 gets (0 ∷ 1 ∷ [])
    ∷ collection 0 [] gets (0x86 ∷ [])
    ∷ [])
    -- a reader is running: its record is held after the mailbox is judged and before the edge; CLOSE_HCA waits for the slot
    ∷ within reading
    (asks 0x08 1 [] gets (0x81 ∷ [])
    ∷ asks 0x31 1 [] gets (3 ∷ [])
    ∷ asks 0x31 0 [] gets (0 ∷ [])
    ∷ asks 0x19 0 (take 163 typed2) gets (0x83 ∷ [])
    ∷ asks 0x19 0 typed2 gets (3 ∷ [])
    ∷ asks 0x1b 0 image gets (0x81 ∷ [])
    ∷ asks 0x22 0 [] gets (0 ∷ 1 ∷ [])
    ∷ asks 0x17 0 [] gets (0x85 ∷ [])
    ∷ collection 0 [] gets (0x86 ∷ [])
    ∷ step 1 gets (0x84 ∷ [])
    ∷ [])
    ∷ within has_read
    (collection 0 (9 ∷ 9 ∷ 9 ∷ []) gets (0x83 ∷ [])
    ∷ collection 0 (9 ∷ 9 ∷ 9 ∷ 9 ∷ []) gets (0 ∷ 4 ∷ 0 ∷ 0 ∷ 0 ∷ 0 ∷ [])
    ∷ collection 1 [] gets (0x84 ∷ [])
    ∷ step 0 gets (0x84 ∷ [])
    ∷ asks 0x08 0 [] gets (0x81 ∷ [])
    ∷ asks 0x19 0 image gets (0 ∷ 1 ∷ [])
    ∷ [])
    -- the row is full: a record that is held and one that denies the request come before that, and NOP needs no slot
    ∷ within (rowed (replicate 8 (slot (Running 0 (read_state 0)))))
    (asks 0x31 0 [] gets (0 ∷ [])
    ∷ asks 0x1b 0 image gets (0x81 ∷ [])
    ∷ asks 0x17 0 [] gets (0x85 ∷ [])
    ∷ asks 0x22 1 [] gets (0x82 ∷ [])
    ∷ engine_request 1 1 0 0 gets (0x82 ∷ [])
    ∷ [])
    -- a write to SQE is for another type than RC: 0x88 stands where 0x85 does, behind the hold and before the full row (02, wish 5); no
    -- command gets it, and no write that no type permits
    ∷ within (in_rts start)
    (engine_request 3 0 0 4 gets (0x88 ∷ [])
    ∷ engine_request 4 0 0x1000000 4 gets (3 ∷ [])
    ∷ engine_request 5 0 0 2 gets (0x85 ∷ [])
    ∷ asks 0x1d 0 image gets (0x85 ∷ [])
    ∷ [])
    ∷ within (in_rts reading) (engine_request 3 0 0 4 gets (0x81 ∷ []) ∷ [])
    ∷ within (in_rts (rowed (replicate 8 (slot (Running 0 (read_state 1)))))) (engine_request 3 0 0 4 gets (0x88 ∷ []) ∷ [])
    -- nothing is under way: the modifiers and numbers before the mailbox's length, that before its content, that before the owner
    ∷ within start
    (asks 0x08 1 [] gets (3 ∷ [])
    ∷ command (hcr_of false 0x31 1 0) [] gets (3 ∷ [])
    ∷ command (hcr_of false 0x1e 0 0) [] gets (3 ∷ [])
    ∷ command (hcr_of false 0x1e 3 0) [] gets (0x85 ∷ [])
    ∷ command (hcr_of false 0x21 3 0) [] gets (0x85 ∷ [])
    ∷ asks 0x19 2 [] gets (3 ∷ [])
    ∷ asks 0x19 1 typed2 gets (3 ∷ [])
    ∷ asks 0x16 2 [] gets (3 ∷ [])
    ∷ asks 0x16 1 (replicate 55 0) gets (0x83 ∷ [])
    ∷ asks 0x16 1 (replicate 56 0) gets (3 ∷ [])
    ∷ asks 0x16 0 (replicate 56 0) gets (0 ∷ 0 ∷ [])
    ∷ asks 0x13 1 [] gets (3 ∷ [])
    ∷ asks 0x13 0 (replicate 47 0) gets (0x83 ∷ [])
    ∷ asks 0x13 0 (replicate 48 0) gets (0 ∷ 0 ∷ [])
    ∷ asks 0x17 0 [] gets (0x85 ∷ [])
    ∷ asks 0x2c 0 (replicate 7 0) gets (0x83 ∷ [])
    ∷ asks 0x2c 0 (replicate 8 0) gets (0x85 ∷ [])
    ∷ engine_request 3 2 0 2 gets (3 ∷ [])
    ∷ engine_request 3 0 0x1000000 2 gets (3 ∷ [])
    ∷ engine_request 3 0 0 7 gets (3 ∷ [])
    ∷ engine_request 3 0 0xffffff 6 gets (0x85 ∷ [])
    -- a read does not look at PSN and state
    ∷ engine_request 6 0 0x1000000 7 gets (0 ∷ 0 ∷ [])
    ∷ [])
    ∷ []

abbrev pub got : List Group → List (List (List ℕ))
got l = map (λ (g : Group). alone g.at (calls_of g.lines)) l

abbrev pub due : List Group → List (List (List ℕ))
due l = map (λ (g : Group). given_by g.lines) l

pub ordered : got (handed_in ++ below87) ≡ due (handed_in ++ below87)
unfolding everything alone commanded reading has_read handed_in below87
ordered = refl

-- Every number but 0 is a refusal, of which the frame (Frames) speaks.
abbrev pub refusals : List Group → List (List Bool)
refusals l = map (λ (g : Group). map (λ (c : Call). refused_by (answer_to g.at c)) (calls_of g.lines)) l

abbrev pub numbered : List Group → List (List Bool)
numbered l = map (λ (g : Group). map (λ (a : List ℕ). not (eqb (get_or a 0 0) 0)) (given_by g.lines)) l

pub refusals_are : refusals (handed_in ++ below87) ≡ numbered (handed_in ++ below87)
unfolding everything commanded reading has_read handed_in below87
refusals_are = refl

-- ---- Refusals because of the record's state (01, The plain book of demand 3; 02, wishes 2 and 5)

-- the number that the journal gets, and the number that the book gives to what it is fed; nothing where the journal gets no refusal
abbrev pub note_numbers : Book → Note → List ℕ
note_numbers b nothing = []
note_numbers b (refused f n) = n ∷ book_number f b ∷ []
note_numbers b (accepted f k) = []
note_numbers b (finished f a) = []
note_numbers b (emptied k a) = []

abbrev pub in_book : World → Call → List ℕ
in_book w c = note_numbers (book_of w) (note_of w.hca.logs c (answer_to w c))

-- queue pair 0 names completion queue 2, which the store has not
abbrev pub misnamed : World → World
misnamed w = with_memory w (memory (splice 0x70 (0 ∷ 0 ∷ 0 ∷ 2 ∷ []) w.memory.store))

-- an edge, an edge for the service type, an owner, a name; and a hold, which is not the record's state
pub of_the_state : in_book (in_rts start) (engine_request 5 0 0 2)
    ∷ in_book (in_rts start) (engine_request 3 0 0 4)
    ∷ in_book start (asks 0x17 0 [])
    ∷ in_book (misnamed start) (engine_request 7 0 0 0)
    ∷ in_book (in_rts reading) (engine_request 3 0 0 4)
    ∷ []
    ≡ (0x85 ∷ 0x85 ∷ []) ∷ (0x88 ∷ 0x88 ∷ []) ∷ (0x85 ∷ 0x85 ∷ []) ∷ (3 ∷ 3 ∷ []) ∷ [] ∷ []
unfolding everything reading gated
of_the_state = refl
