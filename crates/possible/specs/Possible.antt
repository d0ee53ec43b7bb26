-- Which states handed in are impossible (01, Numbers returned, 0x87), condition by condition; the conditions on one slot alone are in
-- `slot_checks`.
use Rattle.std.specs.Prelude.{Bool, false, not, List, ℕ}
use Rattle.words.specs.Choice.{pick, both, either}
use Rattle.context.specs.Layout.{fits_store}
use Rattle.context.specs.declared.Logs.{Logs}
use Rattle.request_table.specs.Records.{records_of, writes_of}
use Rattle.possible.specs.declared.Hca.{Hca}
use Rattle.slots.specs.declared.Slot.{Slot}
use Rattle.slots.specs.declared.Status.{Status}
use Rattle.slots.specs.declared.Status.TheVariants.{Free, Running, Finished}
use Rattle.slots.specs.Slots.{is_occupied, has_command}
use Rattle.rows.specs.Rows.{any_slot, any_rest}
use Rattle.slot_checks.specs.SlotChecks.{slot_wrong}
use Rattle.holds.specs.Holds.{clash_status, held_against}

-- a slot has a command, and one behind it too
unfoldable pub command_before : Slot → List Slot → Bool
command_before s ss = both (has_command s) (any_slot has_command ss)

-- only one command may be uncollected at a time
unfoldable pub two_commands : List Slot → Bool
two_commands row = any_rest command_before row

-- a running slot's request has a record held against it by one behind it
abbrev pub status_clash : Status → List Slot → Bool
status_clash Free ss = false
status_clash (Running m q) ss = held_against ss q
status_clash (Finished m q) ss = false

abbrev pub clash_before : Slot → List Slot → Bool
clash_before s ss = status_clash s.status ss

-- two running requests hold one record, and one of them writes it
unfoldable pub holds_clash : List Slot → Bool
holds_clash row = any_rest clash_before row

-- open: the counts are past their ranges or the store, a slot is wrong by itself, or two slots do not go together
unfoldable pub open_impossible : Logs → ℕ → List Slot → Bool
open_impossible g store row =
    either (not (fits_store g store))
    (either (any_slot (slot_wrong g) row)
    (either (two_commands row)
    (holds_clash row)))

-- closed: a slot is occupied; the counts are then not looked at
unfoldable pub impossible : Hca → List Slot → Bool
impossible h row = pick h.«open» (open_impossible h.logs h.store_len row) (any_slot is_occupied row)

-- ---- the same conditions of two slots, as the code asks them

-- two slots both have a command
abbrev pub both_commands : Slot → Slot → Bool
both_commands s u = both (has_command s) (has_command u)

-- two slots run requests that clash
abbrev pub statuses_clash : Status → Status → Bool
statuses_clash Free t = false
statuses_clash (Running m q) t = clash_status (writes_of q) (records_of q) t
statuses_clash (Finished m q) t = false

abbrev pub slots_clash : Slot → Slot → Bool
slots_clash s u = statuses_clash s.status u.status

-- two slots do not go together
abbrev pub pair_wrong : Slot → Slot → Bool
pair_wrong s u = either (both_commands s u) (slots_clash s u)

-- a slot is wrong by itself, or does not go together with one behind it
unfoldable pub wrong_with : Logs → Slot → List Slot → Bool
wrong_with g s ss = either (slot_wrong g s) (any_slot (pair_wrong s) ss)
