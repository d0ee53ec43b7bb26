-- What a slot holds, as the codes of its records, and whether two slots clash by them (01, Bursts, slots and holds).
use Rattle.std.specs.Prelude.{Bool, false, ℕ, ◌+◌, ◌*◌, eqb}
use Rattle.words.specs.Choice.{pick, either}
use Rattle.context.specs.Layout.{kind_of, number_of, kind_code}
use Rattle.context.specs.declared.Record.{Record}
use Rattle.context.specs.declared.Record.TheVariants as rec
use Rattle.request_table.specs.Records.{holds_of, writes_of}
use Rattle.request_table.specs.declared.Records.{Records}
use Rattle.request_table.specs.declared.Records.TheVariants as records
use Rattle.slots.specs.Slots.{Held}
use Rattle.slots.specs.declared.Slot.{Slot}
use Rattle.slots.specs.declared.Status.{Status}
use Rattle.slots.specs.declared.Status.TheVariants.{Free, Running, Finished}
use Rattle.hold_codes.specs.declared.Hold.{Hold}

-- one number for kind and number of a record; 0 is no record's
abbrev pub record_code : Record → ℕ
record_code X = number_of X * 4 + (kind_code (kind_of X) + 1)

abbrev pub no_hold : Hold
no_hold = record { first = 0; second = 0; third = 0; written = 0 }

-- one record, which the request writes or only reads
abbrev pub one_hold : ℕ → Bool → Hold
one_hold code writes = record { first = code; second = 0; third = 0; written = pick writes code 0 }

-- the three records of a joined read (02, wish 2)
abbrev pub three_hold : ℕ → ℕ → ℕ → Hold
three_hold qp cq eq = record { first = qp; second = cq; third = eq; written = 0 }

abbrev pub hold_on : Bool → Records → Hold
hold_on w (records.One X) = one_hold (record_code X) w
hold_on w (records.Three n c e) = three_hold (record_code (rec.Qp n)) (record_code (rec.Cq c)) (record_code (rec.Eq e))

abbrev pub request_hold : Held → Hold
request_hold q = hold_on (writes_of q) (holds_of q)

-- the last burst ends a hold
abbrev pub hold_status : Status → Hold
hold_status Free = no_hold
hold_status (Running m q) = request_hold q
hold_status (Finished m q) = no_hold

abbrev pub hold_of : Slot → Hold
hold_of s = hold_status s.status

-- ---- whether two holds clash

abbrev pub has_code : Hold → ℕ → Bool
has_code h code = either (eqb h.first code) (either (eqb h.second code) (eqb h.third code))

-- one of the two writes a record that the other has
unfoldable pub holds_meet : Hold → Hold → Bool
holds_meet a b = pick (eqb a.written 0) (pick (eqb b.written 0) false (has_code a b.written)) (has_code b a.written)
