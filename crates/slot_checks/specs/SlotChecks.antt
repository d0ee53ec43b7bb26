-- Whether a slot that is handed in is impossible by itself (01, Numbers returned, 0x87).
use Rattle.std.specs.Prelude.{Bool, false, not, eqb, ltb}
use Rattle.words.specs.Choice.{either}
use Rattle.context.specs.declared.Logs.{Logs}
use Rattle.request_table.specs.Records.{numbers_hold}
use Rattle.burst_table.specs.Bursts.{total_of}
use Rattle.slots.specs.declared.Slot.{Slot}
use Rattle.slots.specs.declared.Status.{Status}
use Rattle.slots.specs.declared.Status.TheVariants.{Free, Running, Finished}

-- the numbers of a slot's request would be refused at its submission: of a running slot and of a finished one alike
abbrev pub request_wrong : Logs → Status → Bool
request_wrong g Free = false
request_wrong g (Running m q) = not (numbers_hold g q)
request_wrong g (Finished m q) = not (numbers_hold g q)

-- a running request has a burst left to move, a finished one has moved exactly its total
abbrev pub bursts_wrong : Status → Bool
bursts_wrong Free = false
bursts_wrong (Running m q) = not (ltb m (total_of q))
bursts_wrong (Finished m q) = not (eqb m (total_of q))

-- a slot is judged by itself: its request's numbers and its bursts
abbrev pub status_wrong : Logs → Status → Bool
status_wrong g s = either (request_wrong g s) (bursts_wrong s)

abbrev pub slot_wrong : Logs → Slot → Bool
slot_wrong g s = status_wrong g s.status
