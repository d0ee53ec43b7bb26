use Rattle.records.specs.Calls.{record_here, judged_here}
use borrow.Author.Rules.{rules}
use Rattle.records.proofs.permission.Goals as goal

pub permission_at-requires : goal.permission_at-requires
permission_at-requires c = search (rules, record_here)

pub returns : goal.returns
returns c = search (rules, judged_here)
