use Rattle.hcr.proofs.Fields.{told_is, told_not, told_test}
use Rattle.hcr.specs.Register.{well_formed18}
use Rattle.words.proofs.Choice.{cases}
use Rattle.hcr_checks.proofs.well_formed_18.Goals as goal

pub returns-then-go_of-ne1 : goal.returns-then-go_of-ne1
unfolding well_formed18
returns-then-go_of-ne1 c = search (cases, told_not)

pub returns-then-status_of-ne0 : goal.returns-then-status_of-ne0
unfolding well_formed18
returns-then-status_of-ne0 c = search (cases, told_is, told_not)

pub returns : goal.returns
unfolding well_formed18
returns c = search (cases, told_is, told_test)
