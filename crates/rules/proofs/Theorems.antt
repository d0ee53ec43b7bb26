-- THE THEOREMS about the rules. They assume nothing.
use Rattle.std.specs.Prelude.{◌≡◌, ℕ, suc}
use Rattle.std.proofs.Common.{sym, ◌∙◌, ap}
use Rattle.bursts.proofs.Effects.{writes_whole}
use Rattle.rules.specs.Book.{Book, Fed, book_number, effect_of, by_number, book_after}
use Rattle.rules.specs.Frames.{Refusals, Steps, Collects, Written, Copied, BurstsWhole, BurstsRead, Records, Elsewhere, BehindKept}
use Rattle.rules.specs.Frames.{SlotTaken, Rooms, Rows, Emptied, Opens, Counts, Buffers, Sizes, MailboxFront, RegisterFront, RoomFront}
use Rattle.rules.specs.Demand2.{Statement as States}
use Rattle.rules.specs.Demand3.{Zeroed, Statement as Serial}
use Rattle.rules.specs.Running.{Statement as Holding}
use Rattle.rules.proofs.Proofs.Agree.{whole_bytes}
use Rattle.rules.proofs.Proofs.Admitted.{read_answers}
use Rattle.rules.proofs.Proofs.Frame as frame
use Rattle.rules.proofs.Proofs.Front as front
use Rattle.rules.proofs.Proofs.Edges as edges
use Rattle.rules.proofs.Proofs.Serial as serial
use Rattle.rules.proofs.Proofs.Running as holds

-- a refusal changes nothing
pub refusals : Refusals
refusals = frame.refusals

-- a step answers the bursts left and moves its slot on; a collection answers, and frees its slot
pub steps : Steps
steps = frame.steps

pub collects : Collects
collects = frame.collects

-- a step makes the next burst of its request, in the record or in the slot's part of the room
pub written : Written
written = frame.written

pub copied : Copied
copied = frame.copied

-- all its bursts make the whole effect, or all that the answer reads
pub bursts_whole : BurstsWhole
bursts_whole q mail r w n e = writes_whole q w mail r e ∙ sym (whole_bytes q mail r n e)

pub bursts_read : BurstsRead
bursts_read = read_answers

-- and nothing else in the store: no other record, no byte outside the burst, none behind the records
pub records : Records
records = frame.records

pub elsewhere : Elsewhere
elsewhere = frame.elsewhere

pub behind : BehindKept
behind = frame.behind

-- an accepted submission takes its slot and fills the front of its part of the room; no other part and no other slot changes
pub slot_taken : SlotTaken
slot_taken = frame.slot_taken

pub rooms : Rooms
rooms = frame.rooms

pub rows : Rows
rows = frame.rows

pub emptied : Emptied
emptied = frame.emptied

-- the state, the buffer and the lengths
pub opens : Opens
opens = frame.opens

pub counts : Counts
counts = frame.counts

pub buffers : Buffers
buffers = frame.buffers

pub sizes : Sizes
sizes = frame.sizes

-- only the needed front of mailbox, HCR and room is read
pub mailbox_front : MailboxFront
mailbox_front = front.mailbox_front

pub register_front : RegisterFront
register_front = front.register_front

pub room_front : RoomFront
room_front = front.room_front

-- a queue pair's state moves only along permitted edges
pub demand2 : States
demand2 = edges.demand2

-- the book starts with records that are all zero
pub zeroed : Zeroed
zeroed = serial.zeroed

-- the finished requests, given to the plain book in the order of acceptance, are all accepted; records, answers and refusals are the
-- book's
pub demand3 : Serial
demand3 = serial.demand3

-- while a joined read runs, the names in its slot are those in the store, and those that the book finds at its place in the journal
pub running : Holding
running = holds.running

-- of the plain book: a request that gets a number changes nothing
pub book_leaves : (f : Fed) (b : Book) (n : ℕ) → book_number f b ≡ suc n → book_after f b ≡ b
unfolding book_after
book_leaves f b n e = ap (λ (m : ℕ). by_number m b (effect_of f b)) e
