use Rattle.slot_writers.specs.Writing.{slot_bytes_made}
use borrow.Author.Rules.{rules}
use Rattle.slot_writers.proofs.slot_bytes.Goals as goal

pub returns : goal.returns
returns c = search (rules, slot_bytes_made)
