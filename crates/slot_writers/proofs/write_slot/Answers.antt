use Rattle.slot_writers.specs.Writing.{put_made}
use borrow.Author.Rules.{rules}
use Rattle.slot_writers.proofs.write_slot.Goals as goal

pub returns : goal.returns
returns c = search (rules, put_made)
