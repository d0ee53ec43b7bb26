use Rattle.device_writers.specs.Writing.{put_header_made}
use borrow.Author.Rules.{rules}
use Rattle.device_writers.proofs.write_header.Goals as goal

pub returns : goal.returns
returns c = search (rules, put_header_made)
