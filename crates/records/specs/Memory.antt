-- The memory that is lent for the records: what a record is in it, and what each use of a record makes of it. The records lie as the
-- layout says (context); no other crate needs to know that.
use Rattle.std.specs.Prelude.{◌≡◌, true, List, [], ◌∷◌, ◌++◌, ℕ, ◌+◌, ◌-◌, ◌≤◌, ◌<◌, ltb, length, replicate, Result}
use Rattle.words.specs.Choice.{pick}
use Rattle.words.specs.Parts.{part, splice}
use Rattle.context.specs.Layout.{is_record, record_at, record_size, bytes_of, in_use}
use Rattle.context.specs.declared.Logs.{Logs}
use Rattle.context.specs.declared.Record.{Record}
use Rattle.requests.specs.declared.Request.{Request}
use Rattle.request_table.specs.Records.{record_of, records_of}
use Rattle.burst_table.specs.Sizes.{burst_size}
use Rattle.burst_table.specs.Bursts.{offset_of}
use Rattle.checks.specs.Permission.{permission_of}
use Rattle.checks.specs.declared.Denial.{Denial}
use Rattle.bursts.specs.Moves.{write_at}

-- what is lent for the records: one stretch of bytes (01, The context store)
pub record Memory : Type 0 where
  pub store : List ℕ

abbrev pub memory : List ℕ → Memory
memory s = record { store = s }

-- a record's bytes
unfoldable pub record_in : Logs → Memory → Record → List ℕ
record_in g m X = bytes_of g X m.store

-- the bytes of some records, one behind the other
abbrev pub joined_in : Logs → Memory → List Record → List ℕ
joined_in g m [] = []
joined_in g m (X ∷ Xs) = record_in g m X ++ joined_in g m Xs

-- every record of a list is one that the memory has
abbrev pub AllRecords : Logs → List Record → Type 0
AllRecords g [] = Unit {0}
AllRecords g (X ∷ Xs) = (is_record g X ≡ true) × AllRecords g Xs

-- the records lie in the memory
abbrev pub Fits : Logs → Memory → Type 0
Fits g m = in_use g ≤ length m.store

-- where byte o of some records, one behind the other, stands in the memory
unfoldable pub place_in : Logs → List Record → ℕ → ℕ
place_in g [] o = 0
place_in g (X ∷ Xs) o = pick (ltb o (record_size X)) (record_at g X + o) (place_in g Xs (o - record_size X))

-- where burst b of a write stands in the memory
unfoldable pub burst_place : Logs → Request → ℕ → ℕ
burst_place g q b = record_at g (record_of q) + offset_of q b

-- burst b of a write whose mailbox bytes are these: that burst of the request's record is changed, and nothing else
-- (01, Bursts, slots and holds)
unfoldable pub written : Logs → Memory → Request → List ℕ → ℕ → Memory
written g m q mail b = memory (write_at q mail (burst_place g q b) (offset_of q b) m.store)

-- burst b of a read: those bytes of the request's records
unfoldable pub read_out : Logs → Memory → Request → ℕ → List ℕ
read_out g m q b = part (offset_of q b) burst_size (joined_in g m (records_of q))

-- whether the request's record permits it
unfoldable pub permission_in : Logs → Memory → Request → Result (Unit {0}) Denial
permission_in g m q = permission_of q (record_in g m (record_of q))

-- INIT_HCA makes the bytes in use zero and leaves the others (01, The context store)
unfoldable pub zeroed : Logs → Memory → Memory
zeroed g m = memory (splice 0 (replicate (in_use g) 0) m.store)

-- byte i of the memory lies in burst b of a write's record
unfoldable pub InBurst : Logs → Request → ℕ → ℕ → Type 0
InBurst g q b i = (burst_place g q b ≤ i) × (i < burst_place g q b + burst_size)

-- byte i lies behind all records
unfoldable pub Behind : Logs → ℕ → Type 0
Behind g i = in_use g ≤ i
