-- The answer of a slot's request: what its writer asks for, and which part of the room it reads.
use Rattle.std.specs.Prelude.{◌≡◌, List, ℕ, ◌+◌, ◌-◌, ◌≤◌, ◌<◌, length, take, drop}
use Rattle.std.proofs.Common.{◌∙◌}
use Rattle.std.proofs.Math.Nat.{add-sub_cancel_left}
use Rattle.words.specs.Parts.{part, splice}
use Rattle.requests.specs.declared.Request.{Request}
use Rattle.answers.specs.Answers.{answer_of, answer_size}
use Rattle.burst_table.specs.Sizes.{slot_count, slot_room, room_size, slot_start}
use Rattle.bursts.specs.Room.{room_of}

-- slot k's request has an answer in its part of the room, and the buffer holds it
pub record Answerable (room : List ℕ) (k : ℕ) (q : Request) (out : List ℕ) : Type 0 where
  pub below : k < slot_count
  pub roomed : room_size ≤ length room
  pub enough : answer_size q ≤ length out

-- the part of the room that the leaf is lent
pub answer_made : (room : List ℕ) (k : ℕ) (q : Request) (out written : List ℕ) (base : ℕ) → base ≡ slot_start k
    → written ≡ splice 0 (answer_of q (take (base + slot_room - base) (drop base room))) out
    → written ≡ splice 0 (answer_of q (room_of k room)) out
unfolding room_of part
answer_made room k q out written base e f = f ∙ rw (add-sub_cancel_left, e)
