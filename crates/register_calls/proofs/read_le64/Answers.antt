use Rattle.register_calls.specs.Bytes.{number_eight}
use borrow.Author.Rules.{rules}
use Rattle.register_calls.proofs.read_le64.Goals as goal

pub returns : goal.returns
returns c = search (rules, number_eight)
