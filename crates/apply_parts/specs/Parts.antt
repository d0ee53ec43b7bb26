-- What opening the store and filling a part of the room ask of the memory lent, and what they leave.
use Rattle.std.specs.Prelude.{◌≡◌, true, List, ℕ, ◌≤◌, ◌<◌, length}
use Rattle.words.specs.Parts.{part}
use Rattle.context.specs.Layout.{ranges_hold, in_use}
use Rattle.context.specs.declared.Logs.{Logs}
use Rattle.requests.specs.declared.Request.{Request}
use Rattle.mailboxes.specs.Mailboxes.{need_of}
use Rattle.burst_table.specs.Sizes.{slot_count, room_size}
use Rattle.possible.specs.declared.Hca.{Hca}
use Rattle.records.specs.Memory.{memory, zeroed}
use Rattle.rules.specs.World.{hca_of}

-- the counts are within their ranges, and the records lie in a store of s bytes
pub record Opening (g : Logs) (s : ℕ) : Type 0 where
  pub ranges : ranges_hold g ≡ true
  pub fits : in_use g ≤ s

-- slot k is one of the row, a room of r bytes has its part, and a mailbox of m bytes has those that the request needs
pub record Taking (q : Request) (k r m : ℕ) : Type 0 where
  pub below : k < slot_count
  pub roomed : room_size ≤ r
  pub enough : need_of q ≤ m

-- what INIT_HCA leaves in the memory, and the state that it hands back
pub record Opened (g : Logs) (store out : List ℕ) (r : Hca) : Type 0 where
  pub zero : memory out ≡ zeroed g (memory store)
  pub state : r ≡ hca_of true g (length store)
