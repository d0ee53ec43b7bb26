-- A submission decides, from what it is lent, and changes nothing; what it decided is then applied. Here the end of both decisions,
-- from the mailbox's length to the slot (the last five rows of 01's table of refusals), and the one definition that applies one.
use Rattle.std.specs.Prelude.{true, not, List, ℕ, ltb, length, get_or, set, Option, Some, None, Result, Ok, Err}
use Rattle.words.specs.Choice.{pick}
use Rattle.words.specs.Parts.{part}
use Rattle.context.specs.declared.Logs.{Logs}
use Rattle.requests.specs.declared.Request.{Request}
use Rattle.mailboxes.specs.Mailboxes.{need_of}
use Rattle.contents.specs.Content.{content_holds}
use Rattle.bursts.specs.Room.{room_filled}
use Rattle.records.specs.Memory.{permission_in, zeroed}
use Rattle.slots.specs.Slots.{slot, accepted}
use Rattle.slots.specs.declared.Status.TheVariants.{Free}
use Rattle.rows.specs.Rows.{lowest_free}
use Rattle.holds.specs.Holds.{held_against}
use Rattle.rules.specs.declared.Refusal.TheVariants as cause
use Rattle.rules.specs.World.{World, hca_of, shut, with_hca, with_row, with_memory, with_room, store_length}
use Rattle.rules.specs.declared.Decision.{Decision}
use Rattle.rules.specs.declared.Refusal.{Refusal}
use Rattle.rules.specs.declared.Submission.{Submission}
use Rattle.rules.specs.declared.Decision.TheVariants as decide
use Rattle.rules.specs.declared.Submission.TheVariants as submit
use Rattle.checks.specs.declared.Denial.{Denial}

-- ---- deciding

-- The last row of the table: no slot is free (01, Numbers returned, 0x82). The request takes the lowest free one.
unfoldable pub decide_place : Request → Option ℕ → Result Decision Refusal
decide_place q (Some k) = Ok (decide.Take q k)
decide_place q None = Err cause.Full

-- The record permits the edge, or has the right owner (01, Numbers returned, 0x85; 02, wish 5, 0x88 beside it); the cause of a denial is
-- passed on.
unfoldable pub decide_verdict : World → Request → Result (Unit {0}) Denial → Result Decision Refusal
decide_verdict w q (Ok tt) = decide_place q (lowest_free 0 w.row)
decide_verdict w q (Err d) = Err (cause.Denied d)

-- The mailbox is long enough, and its content is right; no record is held against the request (01, Numbers returned: 0x83, 3 and 0x81
-- above 0x85). The record is judged only once it is not held, so the verdict never rests on a record that is half written.
unfoldable pub decide_request : World → Request → List ℕ → Result Decision Refusal
decide_request w q mail =
    pick (ltb (length mail) (need_of q)) (Err cause.ShortMailbox)
    (pick (not (content_holds q mail)) (Err cause.BadContent)
    (pick (held_against w.row q) (Err cause.Held)
    (decide_verdict w q (permission_in w.hca.logs w.memory q))))

-- ---- applying

pub record Submitted : Type 0 where
  pub answer : Result Submission Refusal
  pub world : World

abbrev pub submitted : Result Submission Refusal → World → Submitted
submitted a w = record { answer = a; world = w }

-- INIT_HCA makes the bytes in use zero, leaves the others, and remembers the length of the store (01, The context store).
unfoldable pub world_opened : World → Logs → World
world_opened w g = with_memory (with_hca w (hca_of true g (store_length w))) (zeroed g w.memory)

-- CLOSE_HCA closes, and leaves store, row and room (01, Commands).
unfoldable pub world_closed : World → World
world_closed w = with_hca w (shut w.hca)

-- The request runs in slot k, with no burst moved, and the mailbox bytes that it needs stand at the front of the slot's part of the
-- room (01, Bursts, slots and holds).
unfoldable pub world_taken : World → Request → List ℕ → ℕ → World
world_taken w q mail k =
    with_room (with_row w (set w.row k (accepted (get_or w.row k (slot Free)) q)))
    (room_filled k (part 0 (need_of q) mail) w.room)

-- What a decision makes of the world: the only place where a submission changes anything. A refusal returns its cause alone.
abbrev pub applied : World → List ℕ → Result Decision Refusal → Submitted
applied w mail (Err c) = submitted (Err c) w
applied w mail (Ok decide.Nothing) = submitted (Ok submit.Done) w
applied w mail (Ok decide.Close) = submitted (Ok submit.Done) (world_closed w)
applied w mail (Ok (decide.Open g)) = submitted (Ok submit.Done) (world_opened w g)
applied w mail (Ok (decide.Take q k)) = submitted (Ok (submit.Accepted k)) (world_taken w q mail k)
