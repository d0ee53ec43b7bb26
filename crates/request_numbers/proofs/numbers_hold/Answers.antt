use Rattle.request_table.proofs.Listed.{numbers_fail, numbers_told}
use Rattle.request_numbers.proofs.numbers_hold.Goals as goal

pub returns-then-not-all_records : goal.returns-then-not-all_records
returns-then-not-all_records c = numbers_fail _ _ _ _ c.records_of.ensures c.all_records.ensures c.if-not-all_records.true

pub returns : goal.returns
returns c =
    numbers_told _ _ _ _ c.records_of.ensures c.all_records.ensures _
    c.if-not-all_records.false c.psn_holds.ensures
