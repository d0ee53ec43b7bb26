use Rattle.hcr.proofs.Fields.{told_formed, told_below}
use Rattle.hcr.specs.Register.{well_formed}
use Rattle.words.proofs.Choice.{cases}
use borrow.Author.Tests.{not-true, not-false}
use Rattle.hcr_checks.proofs.well_formed.Goals as goal

pub returns-then-not-well_formed_18 : goal.returns-then-not-well_formed_18
unfolding well_formed
returns-then-not-well_formed_18 c = search (cases, not-true, told_formed)

pub returns : goal.returns
unfolding well_formed
returns c = search (cases, not-false, told_formed, told_below)
