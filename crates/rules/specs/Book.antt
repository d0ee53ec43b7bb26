-- 01, The plain book of demand 3.
use Rattle.std.specs.Prelude.{Bool, false, List, [], ℕ, zero, suc}
use Rattle.words.specs.Choice.{pick}
use Rattle.context.specs.Layout.{same_record}
use Rattle.context.specs.declared.Logs.{Logs}
use Rattle.context.specs.declared.Record.{Record}
use Rattle.requests.specs.declared.Request.{Request}
use Rattle.request_table.specs.Records.{record_of, records_of, writes_of}
use Rattle.checks.specs.Permission.{permission_of}
use Rattle.checks.specs.Verdicts.{denial_number, verdict_number}
use Rattle.checks.specs.declared.Denial.TheVariants as denial
use Rattle.answers.specs.Answers.{answer_of}
use Rattle.rules.specs.Whole.{whole_effect}
use Rattle.rules.specs.Names.{Arguments, Named, found, lost, named_in, joined}

-- The book is open or closed and has every record as bytes. The counts say which numbers name a record.
pub record Book : Type 0 where
  pub opened : Bool
  pub counts : Logs
  pub bytes : Record → List ℕ

-- It is fed a request's arguments (op or number, index, PSN and state), and the needed front of the mailbox as it was submitted. Of a
-- joined read that is the number and the index alone: the names it reads in its own records (02, wish 2).
pub data Fed : Type 0 where
  on_record : Arguments → List ℕ → Fed
  close_hca : Fed
  nop : Fed

-- the book with one record's bytes replaced, and the book closed
unfoldable pub with_record : Book → Record → List ℕ → Book
with_record b X ys = record { opened = b.opened; counts = b.counts; bytes = λ Y. pick (same_record X Y) ys (b.bytes Y) }

abbrev pub shut_book : Book → Book
shut_book b = record { opened = false; counts = b.counts; bytes = b.bytes }

-- Closed, it gives 4 to all but NOP.
unfoldable pub gated : Bool → ℕ → ℕ
gated o n = pick o n 4

-- the request that is asked for, with the names in the book's own records
abbrev pub named : Arguments → Book → Named
named a b = named_in b.counts b.bytes a

-- The number that the book gives, 0 for none: it accepts a request to which it gives none. A write gets the number of the denial where
-- the record does not permit its edge or has the wrong owner; a read is always permitted; a name out of range gets 3 (02, wish 2).
abbrev pub named_number : Book → Named → ℕ
named_number b (found q) = verdict_number (permission_of q (b.bytes (record_of q)))
named_number b lost = denial_number denial.Name

abbrev pub book_number : Fed → Book → ℕ
book_number (on_record a mail) b = gated b.opened (named_number b (named a b))
book_number close_hca b = gated b.opened 0
book_number nop b = 0

-- The answer of a read comes from its records, laid out as in collecting; every other answer is empty.
abbrev pub named_reply : Book → Named → List ℕ
named_reply b (found q) = answer_of q (joined (records_of q) b.bytes)
named_reply b lost = []

abbrev pub book_reply : Fed → Book → List ℕ
book_reply (on_record a mail) b = named_reply b (named a b)
book_reply close_hca b = []
book_reply nop b = []

-- A write has its whole effect at once; a read and NOP change nothing; CLOSE_HCA closes the book.
unfoldable pub after_record : Request → List ℕ → Book → Book
after_record q mail b = pick (writes_of q) (with_record b (record_of q) (whole_effect q mail (b.bytes (record_of q)))) b

abbrev pub named_effect : List ℕ → Book → Named → Book
named_effect mail b (found q) = after_record q mail b
named_effect mail b lost = b

abbrev pub effect_of : Fed → Book → Book
effect_of (on_record a mail) b = named_effect mail b (named a b)
effect_of close_hca b = shut_book b
effect_of nop b = b

-- what is left of the book: a request that gets a number changes nothing
abbrev pub by_number : ℕ → Book → Book → Book
by_number zero b c = c
by_number (suc n) b c = b

unfoldable pub book_after : Fed → Book → Book
book_after f b = by_number (book_number f b) b (effect_of f b)
