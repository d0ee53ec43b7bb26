-- What the scan over a device's bytes asks.
use Rattle.std.specs.Prelude.{Bool, List, [], ◌∷◌, ℕ, Option}
use Rattle.words.specs.Choice.{either}
use Rattle.words.specs.Parts.{part}
use Rattle.context.specs.declared.Logs.{Logs}
use Rattle.slots.specs.declared.Slot.{Slot}
use Rattle.rows.specs.Rows.{any_slot}
use Rattle.slot_checks.specs.SlotChecks.{slot_wrong}
use Rattle.possible.specs.Possible.{two_commands, holds_clash, open_impossible}
use Rattle.possible.specs.declared.Hca.{Hca}
use Rattle.device_bytes.specs.Decoding.{slot_place, slots_of}
use Rattle.hold_codes.specs.Codes.{hold_of}
use Rattle.hold_codes.specs.declared.Hold.{Hold}
use Rattle.slot_judging.specs.Judging.{judged_of}
use Rattle.slot_judging.specs.declared.Judged.{Judged}

-- slot k, which is occupied: None where it is wrong
unfoldable pub judged_at : Logs → ℕ → List ℕ → Option Judged
judged_at g k dev = judged_of g (part (slot_place k) 32 dev)

-- what each slot holds
abbrev pub holds_row : List Slot → List Hold
holds_row [] = []
holds_row (s ∷ ss) = hold_of s ∷ holds_row ss

-- 0x87's conditions on the slots of an open state (01, Numbers returned)
unfoldable pub slots_impossible : Logs → List Slot → Bool
slots_impossible g row = either (any_slot (slot_wrong g) row) (either (two_commands row) (holds_clash row))

unfoldable pub open_device : Hca → List ℕ → Bool
open_device h dev = open_impossible h.logs h.store_len (slots_of 8 dev)
