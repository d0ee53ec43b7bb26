use Rattle.device_writers.specs.Writing.{header_made}
use borrow.Author.Rules.{rules}
use Rattle.device_writers.proofs.header_bytes.Goals as goal

pub returns : goal.returns
returns c = search (rules, header_made)
