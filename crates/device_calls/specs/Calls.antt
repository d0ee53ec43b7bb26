-- THE EXPORTED CALLS on bytes: the device is decoded, the rules' call is made, and what it changed of state and row is written back:
-- the header, or the one slot. Every other byte of the device stays; a refusal leaves all of it.
-- A call answers with one number of 32 bits: 01's number in the low byte and, of an accepted call, its value above it.
use Rattle.std.specs.Prelude.{List, ℕ, ◌+◌, ◌*◌, get_or, Result, Ok, Err}
use Rattle.slots.specs.Slots.{slot}
use Rattle.slots.specs.declared.Slot.{Slot}
use Rattle.slots.specs.declared.Status.TheVariants.{Free}
use Rattle.rules.specs.Numbers.{refusal_number, reset_number}
use Rattle.rules.specs.World.{World, world}
use Rattle.rules.specs.Admission.{Submitted}
use Rattle.rules.specs.Commands.{submit_command}
use Rattle.rules.specs.Engines.{submit_engine}
use Rattle.rules.specs.Steps.{Stepped, step_of}
use Rattle.rules.specs.Collections.{Collected, collect_of}
use Rattle.rules.specs.Resets.{Reset, reset_of}
use Rattle.rules.specs.declared.Refusal.{Refusal}
use Rattle.rules.specs.declared.Submission.{Submission}
use Rattle.rules.specs.declared.Submission.TheVariants as submit
use Rattle.device_bytes.specs.Decoding.{hca_of, row_of}
use Rattle.device_bytes.specs.Encoding.{put_slot, put_moved, put_header, device_bytes}

-- the world that a device, a store and a room are
abbrev pub world_of : List ℕ → List ℕ → List ℕ → World
world_of dev store room = world (hca_of dev) (row_of dev) store room

-- slot k of a row
abbrev pub slot_in : List Slot → ℕ → Slot
slot_in row k = get_or row k (slot Free)

-- what a call hands back and leaves: its answer, and device, store and room
pub record Left : Type 0 where
  pub answer : ℕ
  pub device : List ℕ
  pub store : List ℕ
  pub room : List ℕ

abbrev pub left : ℕ → List ℕ → List ℕ → List ℕ → Left
left a d s r = record { answer = a; device = d; store = s; room = r }

-- ---- submissions

-- A submission that takes a slot gives its number plus one, so that 0 says that none was taken.
abbrev pub submit_code : Result Submission Refusal → ℕ
submit_code (Ok submit.Done) = 0
submit_code (Ok (submit.Accepted k)) = 256 * (k + 1)
submit_code (Err c) = refusal_number c

abbrev pub submit_device : List ℕ → Result Submission Refusal → World → List ℕ
submit_device dev (Ok submit.Done) w = put_header w.hca dev
submit_device dev (Ok (submit.Accepted k)) w = put_slot k (slot_in w.row k) dev
submit_device dev (Err c) w = dev

unfoldable pub submit_left : List ℕ → Submitted → Left
submit_left dev x = left (submit_code x.answer) (submit_device dev x.answer x.world) x.world.memory.store x.world.room

unfoldable pub command_call : List ℕ → List ℕ → List ℕ → List ℕ → List ℕ → Left
command_call dev store room bytes mail = submit_left dev (submit_command (world_of dev store room) bytes mail)

unfoldable pub engine_call : List ℕ → List ℕ → List ℕ → ℕ → ℕ → ℕ → ℕ → Left
engine_call dev store room number index psn state = submit_left dev (submit_engine (world_of dev store room) number index psn state)

-- ---- a step

-- A step gives the bursts still to move.
abbrev pub step_code : Result ℕ Refusal → ℕ
step_code (Ok n) = 256 * n
step_code (Err c) = refusal_number c

-- It changes the status and the bursts moved of its slot alone.
abbrev pub step_device : List ℕ → ℕ → Result ℕ Refusal → World → List ℕ
step_device dev k (Ok n) w = put_moved k (slot_in w.row k) dev
step_device dev k (Err c) w = dev

unfoldable pub step_left : List ℕ → ℕ → Stepped → Left
step_left dev k x = left (step_code x.answer) (step_device dev k x.answer x.world) x.world.memory.store x.world.room

unfoldable pub step_call : List ℕ → List ℕ → List ℕ → ℕ → Left
step_call dev store room k = step_left dev k (step_of (world_of dev store room) k)

-- ---- a collection

-- what a collection hands back and leaves: store and room are lent only to be read
pub record Taken : Type 0 where
  pub answer : ℕ
  pub device : List ℕ
  pub out : List ℕ

abbrev pub taken : ℕ → List ℕ → List ℕ → Taken
taken a d out = record { answer = a; device = d; out = out }

-- A collection gives the bytes written.
abbrev pub collect_code : Result ℕ Refusal → ℕ
collect_code (Ok n) = 256 * n
collect_code (Err c) = refusal_number c

abbrev pub collect_device : List ℕ → ℕ → Result ℕ Refusal → World → List ℕ
collect_device dev k (Ok n) w = put_slot k (slot_in w.row k) dev
collect_device dev k (Err c) w = dev

unfoldable pub collect_left : List ℕ → ℕ → Collected → Taken
collect_left dev k x = taken (collect_code x.answer) (collect_device dev k x.answer x.world) x.out

unfoldable pub collect_call : List ℕ → List ℕ → List ℕ → ℕ → List ℕ → Taken
collect_call dev store room k out = collect_left dev k (collect_of (world_of dev store room) k out)

-- ---- reset

-- what a reset hands back and leaves: store and room are lent only to be read
pub record Emptied : Type 0 where
  pub answer : ℕ
  pub device : List ℕ

abbrev pub emptied : ℕ → List ℕ → Emptied
emptied a d = record { answer = a; device = d }

-- A reset changes every slot and the header: it writes all of the device.
abbrev pub reset_device : List ℕ → Result (Unit {0}) Refusal → World → List ℕ
reset_device dev (Ok tt) w = device_bytes w.hca w.row
reset_device dev (Err c) w = dev

unfoldable pub reset_left : List ℕ → Reset → Emptied
reset_left dev x = emptied (reset_number x.answer) (reset_device dev x.answer x.world)

unfoldable pub reset_call : List ℕ → List ℕ → List ℕ → Emptied
reset_call dev store room = reset_left dev (reset_of (world_of dev store room))
