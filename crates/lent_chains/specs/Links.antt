-- LINKS of the operations over a lent row: what is known of one call of one of them. The claims about chains of such calls are those of
-- `chains`, which states them of any form of the operations.
use Rattle.std.specs.Prelude.{◌≡◌, List, ℕ, Result}
use Rattle.slots.specs.declared.Slot.{Slot}
use Rattle.possible.specs.declared.Hca.{Hca}
use Rattle.rules.specs.World.{World, world}
use Rattle.rules.specs.Admission as admission
use Rattle.rules.specs.Commands.{submit_command}
use Rattle.rules.specs.Engines.{submit_engine}
use Rattle.rules.specs.Steps as steps
use Rattle.rules.specs.Steps.{step_of}
use Rattle.rules.specs.Collections as collections
use Rattle.rules.specs.Collections.{collect_of}
use Rattle.rules.specs.Resets as resets
use Rattle.rules.specs.Resets.{reset_of}
use Rattle.rules.specs.Calls.{Call, command, engine_request, step, collection, resetting}
use Rattle.rules.specs.Calls.{Answer, submitted, stepped, collected, reset_done}
use Rattle.rules.specs.declared.Refusal.{Refusal}
use Rattle.rules.specs.declared.Submission.{Submission}
use Rattle.lent_answers.specs.declared.Reply.{Reply}

-- One constructor for each operation, whose premise is its `ensures`: `row` is `now row.entry` of the contract and `rowLeft` is
-- `now row.exit`, and so for store, room and buffer. A row may have any number of slots.
pub data LentLink : World → Call → Answer → World → Type 0 where
  command_link : (hca : Hca) (row : List Slot) (store room bytes mail : List ℕ) (r : Reply Submission) (rowLeft : List Slot)
      (storeLeft room_left : List ℕ)
      → admission.submitted r.answer (world r.hca rowLeft storeLeft room_left) ≡ submit_command (world hca row store room) bytes mail
      → LentLink (world hca row store room) (command bytes mail) (submitted r.answer) (world r.hca rowLeft storeLeft room_left)
  engine_link : (hca : Hca) (row : List Slot) (store room : List ℕ) (number index psn state : ℕ) (r : Reply Submission) (rowLeft : List Slot)
      (storeLeft room_left : List ℕ)
      → admission.submitted r.answer (world r.hca rowLeft storeLeft room_left)
      ≡ submit_engine (world hca row store room) number index psn state
      → LentLink (world hca row store room) (engine_request number index psn state) (submitted r.answer)
      (world r.hca rowLeft storeLeft room_left)
  step_link : (hca : Hca) (row : List Slot) (store room : List ℕ) (k : ℕ) (r : Result ℕ Refusal) (rowLeft : List Slot) (storeLeft room_left : List ℕ)
      → steps.stepped r (world hca rowLeft storeLeft room_left) ≡ step_of (world hca row store room) k
      → LentLink (world hca row store room) (step k) (stepped r) (world hca rowLeft storeLeft room_left)
  collect_link : (hca : Hca) (row : List Slot) (store room : List ℕ) (k : ℕ) (out : List ℕ) (r : Result ℕ Refusal) (rowLeft : List Slot)
      (outLeft : List ℕ)
      → collections.collected r (world hca rowLeft store room) outLeft ≡ collect_of (world hca row store room) k out
      → LentLink (world hca row store room) (collection k out) (collected r outLeft) (world hca rowLeft store room)
  reset_link : (hca : Hca) (row : List Slot) (store room : List ℕ) (r : Reply (Unit {0})) (rowLeft : List Slot)
      → resets.resetted r.answer (world r.hca rowLeft store room) ≡ reset_of (world hca row store room)
      → LentLink (world hca row store room) resetting (reset_done r.answer) (world r.hca rowLeft store room)
