-- One burst, as the code moves it.
use Rattle.std.specs.Prelude.{◌≡◌, Bool, List, [], ℕ}
use Rattle.std.proofs.Math.Path.{sym}
use Rattle.std.proofs.Common.{◌∙◌}
use Rattle.std.proofs.Math.Bool.{true, false}
use Rattle.requests.specs.declared.Request.{Request}
use Rattle.request_table.specs.Records.{writes_of}
use Rattle.burst_table.specs.Bursts.{offset_of}
use Rattle.bursts.specs.Room.{front_of, room_copied}
use Rattle.records.specs.Memory.{Memory, memory, written, read_out}
use Rattle.possible.specs.declared.Hca.{Hca}
use Rattle.rules.specs.World.{world}
use Rattle.rules.specs.Steps.{memory_moved, room_moved}

-- the memory and the room after a burst
pub record Moved : Type 0 where
  pub memory : Memory
  pub room : List ℕ

abbrev pub moved : List ℕ → List ℕ → Moved
moved store room = record { memory = memory store; room = room }

-- as the rules move it; the row has no part in it
unfoldable pub burst_moved : Hca → List ℕ → List ℕ → ℕ → Request → ℕ → Moved
burst_moved h store room k q m =
    record { memory = memory_moved (world h [] store room) k q m; room = room_moved (world h [] store room) k q m }

module _ (h : Hca) (store room : List ℕ) (k : ℕ) (q : Request) (m : ℕ) (writes : Bool) (told : writes ≡ writes_of q) where
  pub write_moved : (out : List ℕ) → writes ≡ true → memory out ≡ written h.logs (memory store) q (front_of k q room) m
      → moved out room ≡ burst_moved h store room k q m
  unfolding burst_moved memory_moved room_moved
  write_moved out t e = let y : writes_of q ≡ true = sym told ∙ t in rw (y, e)

  pub read_moved : (out : List ℕ) → writes ≡ false
      → out ≡ room_copied k (offset_of q m) (read_out h.logs (memory store) q m) room
      → moved store out ≡ burst_moved h store room k q m
  unfolding burst_moved memory_moved room_moved
  read_moved out f e = let n : writes_of q ≡ false = sym told ∙ f in rw (n, e)
