-- A collection: the answer of a finished slot's request, and the slot freed.
use Rattle.std.specs.Prelude.{List, ℕ, ltb, length, get_or, set, Result, Ok, Err}
use Rattle.words.specs.Choice.{pick}
use Rattle.words.specs.Parts.{splice}
use Rattle.requests.specs.declared.Request.{Request}
use Rattle.answers.specs.Answers.{answer_of, answer_size}
use Rattle.bursts.specs.Room.{room_of}
use Rattle.slots.specs.Slots.{slot, freed}
use Rattle.slots.specs.declared.Status.{Status}
use Rattle.slots.specs.declared.Status.TheVariants.{Free, Running, Finished}
use Rattle.rules.specs.declared.Refusal.{Refusal}
use Rattle.rules.specs.declared.Refusal.TheVariants as cause
use Rattle.rules.specs.World.{World, with_row, status_at, bad_lent, bad_state}

pub record Collected : Type 0 where
  pub answer : Result ℕ Refusal
  pub world : World
  pub out : List ℕ

abbrev pub collected : Result ℕ Refusal → World → List ℕ → Collected
collected a w out = record { answer = a; world = w; out = out }

abbrev pub collect_refused : World → List ℕ → Refusal → Collected
collect_refused w out c = collected (Err c) w out

-- what collecting a slot's request writes: read from the slot's part of the room as it stands
unfoldable pub answer_at : World → ℕ → Request → List ℕ
answer_at w k q = answer_of q (room_of k w.room)

-- what a collection of slot k leaves: the slot is free, the room stays (01, Bursts, slots and holds)
unfoldable pub world_freed : World → ℕ → World
world_freed w k = with_row w (set w.row k (freed (get_or w.row k (slot Free))))

-- The buffer holds the answer (01, Numbers returned, the 0x83 of collect), which is written at its front.
unfoldable pub collect_finished : World → ℕ → List ℕ → Request → Collected
collect_finished w k out q =
    pick (ltb (length out) (answer_size q)) (collect_refused w out cause.ShortBuffer)
    (collected (Ok (answer_size q)) (world_freed w k) (splice 0 (answer_at w k q) out))

-- There is such a slot, and its request is finished (01, Numbers returned, 0x84 and 0x86).
unfoldable pub collect_on : World → ℕ → List ℕ → Status → Collected
collect_on w k out Free = collect_refused w out cause.NoRequest
collect_on w k out (Running m q) = collect_refused w out cause.StillRunning
collect_on w k out (Finished m q) = collect_finished w k out q

-- lent memory and state are tested first, as by every call but reset
unfoldable pub collect_of : World → ℕ → List ℕ → Collected
collect_of w k out =
    pick (bad_lent w) (collect_refused w out cause.BadLength)
    (pick (bad_state w) (collect_refused w out cause.Impossible)
    (collect_on w k out (status_at k w.row)))
