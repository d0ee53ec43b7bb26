use Rattle.std.specs.Prelude.{Ok}
use Rattle.std.proofs.Common.{◌∙◌, ap}
use Rattle.applying.specs.Calls.{close_leaves, open_leaves, take_leaves}
use borrow.Author.Rules.{rules}
use Rattle.applying.proofs.apply.Goals as goal

pub returns-in-Close : goal.returns-in-Close
returns-in-Close c =
    let is = c.in-Ok.is ∙ ap Ok c.in-Close.is in
    search (rules, close_leaves)

pub returns-in-Open : goal.returns-in-Open
returns-in-Open c =
    let is = c.in-Ok.is ∙ ap Ok c.in-Open.is in
    search (rules, open_leaves)

pub returns-in-Take : goal.returns-in-Take
returns-in-Take c =
    let is = c.in-Ok.is ∙ ap Ok c.in-Take.is in
    search (rules, take_leaves)
