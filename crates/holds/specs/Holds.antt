-- Holds: a running request has its records for itself if it writes them, and shares them with other readers if it reads them
-- (01, Bursts, slots and holds).
use Rattle.std.specs.Prelude.{Bool, false, List, [], ◌∷◌}
use Rattle.words.specs.Choice.{both, either}
use Rattle.context.specs.declared.Record.{Record}
use Rattle.requests.specs.declared.Request.{Request}
use Rattle.request_table.specs.Records.{records_of, writes_of, one_of}
use Rattle.slots.specs.declared.Slot.{Slot}
use Rattle.slots.specs.declared.Status.{Status}
use Rattle.slots.specs.declared.Status.TheVariants.{Free, Running, Finished}
use Rattle.slots.specs.Slots.{Held}
use Rattle.rows.specs.Rows.{any_slot}

-- the running request q holds the record X against one that writes it (w) or reads it: X is one of its records, and one of the
-- two writes
abbrev pub clash_pair : Held → Bool → Record → Bool
clash_pair q w X = both (one_of (records_of q) X) (either (writes_of q) w)

-- it holds one of some records
unfoldable pub clash_records : Held → Bool → List Record → Bool
clash_records q w [] = false
clash_records q w (X ∷ Xs) = either (clash_pair q w X) (clash_records q w Xs)

-- the last burst ends a hold: a finished request holds nothing
abbrev pub clash_status : Bool → List Record → Status → Bool
clash_status w Xs Free = false
clash_status w Xs (Running m q) = clash_records q w Xs
clash_status w Xs (Finished m q) = false

abbrev pub clash_slot : Bool → List Record → Slot → Bool
clash_slot w Xs s = clash_status w Xs s.status

-- a request of the row holds a record against this one (01, Numbers returned, the second 0x81)
unfoldable pub held_against : List Slot → Request → Bool
held_against row q = any_slot (clash_slot (writes_of q) (records_of q)) row

-- a request of the row holds this record against a reader: one that writes it (02, wish 2)
unfoldable pub read_held : List Slot → Record → Bool
read_held row X = any_slot (clash_slot false (X ∷ [])) row
