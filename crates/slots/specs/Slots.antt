-- A slot, its moves, and what is asked of it.
use Rattle.std.specs.Prelude.{Bool, true, false, ℕ, ◌+◌, ◌-◌, ltb}
use Rattle.words.specs.Choice.{pick}
use Rattle.requests.specs.declared.Request.{Request}
use Rattle.burst_table.specs.Bursts.{total_of}
use Rattle.request_table.specs.Records.{is_command}
use Rattle.slots.specs.declared.Slot.{Slot}
use Rattle.slots.specs.declared.Advanced.{Advanced}
use Rattle.slots.specs.declared.Status.{Status}
use Rattle.slots.specs.declared.Status.TheVariants.{Free, Running, Finished}

-- what a slot holds of its request: the request with the names that its submission read, if it read any (02, wish 2)
abbrev pub Held : Type 0
Held = Request

-- the slot with a status; the bytes of mailbox and answer stand in the room beside it (01, Each place and its form)
abbrev pub slot : Status → Slot
slot s = record { status = s }

-- a request that is accepted runs, with no burst moved yet
abbrev pub accepted : Slot → Held → Slot
accepted s q = slot (Running 0 q)

-- one burst more; the one that makes up the total finishes the request (01, Bursts, slots and holds)
abbrev pub advanced_status : Status → Status
advanced_status Free = Free
advanced_status (Running m q) = pick (ltb (m + 1) (total_of q)) (Running (m + 1) q) (Finished (total_of q) q)
advanced_status (Finished m q) = Finished m q

abbrev pub advanced : Slot → Slot
advanced s = slot (advanced_status s.status)

-- collecting frees the slot (01, Bursts, slots and holds)
abbrev pub freed : Slot → Slot
freed s = slot Free

-- the bursts still to move: the burst table's total less the bursts moved (01, Each place and its form)
abbrev pub left_status : Status → ℕ
left_status Free = 0
left_status (Running m q) = total_of q - m
left_status (Finished m q) = total_of q - m

abbrev pub left_of : Slot → ℕ
left_of s = left_status s.status

-- what a step makes of its slot: the slot one burst further, and the bursts then left
abbrev pub advanced_slot : Slot → Advanced
advanced_slot s = record { slot = advanced s; left = left_of (advanced s) }

-- a slot is occupied until its request is collected (01, Numbers returned, 0x87 and 0x82)
abbrev pub occupied_status : Status → Bool
occupied_status Free = false
occupied_status (Running m q) = true
occupied_status (Finished m q) = true

abbrev pub is_occupied : Slot → Bool
is_occupied s = occupied_status s.status

-- a command is uncollected while it runs and when it has finished (01, Numbers returned, 0x81)
abbrev pub command_status : Status → Bool
command_status Free = false
command_status (Running m q) = is_command q
command_status (Finished m q) = is_command q

abbrev pub has_command : Slot → Bool
has_command s = command_status s.status
