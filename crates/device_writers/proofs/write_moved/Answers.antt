use Rattle.device_writers.specs.Writing.{moved_made}
use borrow.Author.Rules.{rules}
use Rattle.device_writers.proofs.write_moved.Goals as goal

pub returns : goal.returns
returns c = search (rules, moved_made)
