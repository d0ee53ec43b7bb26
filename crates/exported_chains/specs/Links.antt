-- LINKS of the exported functions: what is known of one call of one of them. The claims about chains of such calls are those of
-- `chains`, which states them of any form of the operations. A link is between the worlds that the lent bytes decode to; its answer is
-- the rules' one, whose number is the number that the call gave (`Theorems: numbers`).
use Rattle.std.specs.Prelude.{◌≡◌, List, [], ℕ, ◌^◌, ◌<◌, length}
use Rattle.words.specs.Words.{AreBytes}
use Rattle.possible.specs.declared.Hca.{Hca}
use Rattle.rules.specs.World.{World, world}
use Rattle.rules.specs.Calls.{Call, command, engine_request, step, collection, resetting, Answer, answer_to}
use Rattle.device_calls.specs.Calls.{world_of, left, command_call, engine_call, step_call, taken, collect_call, emptied, reset_call}

-- device, store and room as they are lent
pub record Buffers : Type 0 where
  pub device : List ℕ
  pub store : List ℕ
  pub room : List ℕ

abbrev pub buffers : List ℕ → List ℕ → List ℕ → Buffers
buffers d s m = record { device = d; store = s; room = m }

-- What a call's function ensures: of its input and what it was lent, its number, and what it left; the last is what a collection left in
-- its buffer. `d` is `now device.entry` of the contract and `d'` is `now device.exit`, and so for the others. What is lent only to
-- be read is left.
pub data Ensured : Call → Buffers → ℕ → Buffers → List ℕ → Type 0 where
  command_ensured : {d s m d' s' m' bytes mail o : List ℕ} {r : ℕ}
      → left r d' s' m' ≡ command_call d s m bytes mail → Ensured (command bytes mail) (buffers d s m) r (buffers d' s' m') o
  engine_ensured : {d s m d' s' m' o : List ℕ} {number index psn state r : ℕ}
      → left r d' s' m' ≡ engine_call d s m number index psn state
      → Ensured (engine_request number index psn state) (buffers d s m) r (buffers d' s' m') o
  step_ensured : {d s m d' s' m' o : List ℕ} {k r : ℕ}
      → left r d' s' m' ≡ step_call d s m k → Ensured (step k) (buffers d s m) r (buffers d' s' m') o
  collect_ensured : {d s m d' out o : List ℕ} {k r : ℕ}
      → taken r d' o ≡ collect_call d s m k out → Ensured (collection k out) (buffers d s m) r (buffers d' s m) o
  reset_ensured : {d s m d' o : List ℕ} {r : ℕ} → emptied r d' ≡ reset_call d s m → Ensured resetting (buffers d s m) r (buffers d' s m) o

-- the world that lent bytes are
abbrev pub world_in : Buffers → World
world_in b = world_of b.device b.store b.room

-- The device is lent whole, or with another length: then the call has neither slots nor a state, and h is the state that stands in the
-- device's own bytes. Of what is lent it is known that bytes are bytes and that a length is one of 64 bits.
pub data DeviceLink : World → Call → Answer → World → Type 0 where
  whole : (c : Call) (b b' : Buffers) (r : ℕ) (o : List ℕ) → length b.device ≡ 288 → AreBytes b.device → length b.store < 2 ^ 64
      → Ensured c b r b' o → DeviceLink (world_in b) c (answer_to (world_in b) c) (world_in b')
  other : (c : Call) (b b' : Buffers) (r : ℕ) (o : List ℕ) (h : Hca) → ¬ (length b.device ≡ 288) → Ensured c b r b' o
      → DeviceLink (world h [] b.store b.room) c (answer_to (world h [] b.store b.room) c) (world h [] b'.store b'.room)
