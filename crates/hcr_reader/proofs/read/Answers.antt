use Rattle.hcr.specs.Register.{read_of, read_rows}
use Rattle.words.proofs.Choice.{cases}
use borrow.Author.Tests.{not-true, not-false}
use Rattle.hcr_reader.proofs.read.Goals as goal

pub returns-then-hcr-lt28 : goal.returns-then-hcr-lt28
unfolding read_of read_rows
returns-then-hcr-lt28 c = search cases

pub returns-then-not-well_formed : goal.returns-then-not-well_formed
unfolding read_of read_rows
returns-then-not-well_formed c = search (cases, not-true)

pub returns : goal.returns
unfolding read_of read_rows
returns c = search (cases, not-false)
