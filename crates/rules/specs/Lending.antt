-- Each call of a list is lent as much of the memory as its caller likes: the front of the row, of the room and of the store. The rules
-- are applied to what is lent, and what is not lent stays.
use Rattle.std.specs.Prelude.{Bool, ◌++◌, ℕ, take, drop}
use Rattle.burst_table.specs.Sizes.{slot_count, room_size}
use Rattle.records.specs.Memory.{memory}
use Rattle.rules.specs.World.{World}
use Rattle.rules.specs.Calls.{Call, Answer, answer_to, world_after, begins, stops}

-- how many slots, and how many bytes of room and store; of what is shorter, all
pub record Lent : Type 0 where
  pub slots : ℕ
  pub room : ℕ
  pub store : ℕ

-- a call, and what it is lent
pub record LentCall : Type 0 where
  pub lent : Lent
  pub call : Call

abbrev pub lend : Lent → World → World
lend l w = record {
  hca = w.hca;
  row = take l.slots w.row;
  memory = memory (take l.store w.memory.store);
  room = take l.room w.room;
}

-- the world w, of which u is what a call left of the part that it was lent
abbrev pub give_back : Lent → World → World → World
give_back l w u = record {
  hca = u.hca;
  row = u.row ++ drop l.slots w.row;
  memory = memory (u.memory.store ++ drop l.store w.memory.store);
  room = u.room ++ drop l.room w.room;
}

abbrev pub answer_lent : World → LentCall → Answer
answer_lent w c = answer_to (lend c.lent w) c.call

abbrev pub world_lent : World → LentCall → World
world_lent w c = give_back c.lent w (world_after (lend c.lent w) c.call)

abbrev pub begins_lent : World → LentCall → Bool
begins_lent w c = begins (lend c.lent w) c.call

abbrev pub stops_lent : World → LentCall → Bool
stops_lent w c = stops (lend c.lent w) c.call

-- What every call that is not refused for its lengths is lent, at least: eight slots, their parts of the room, and a store of the
-- remembered length.
abbrev pub proper : World → World
proper w = lend (record { slots = slot_count; room = room_size; store = w.hca.store_len }) w
