use Rattle.context.specs.Layout.{fits_store}
use Rattle.words.proofs.Choice.{cases}
use borrow.Author.Tests.{not-true, not-false}
use Rattle.store_tables.proofs.fits_store.Goals as goal

pub returns-then-not-ranges_hold : goal.returns-then-not-ranges_hold
unfolding fits_store
returns-then-not-ranges_hold c = search (cases, not-true) depth 8

pub returns : goal.returns
unfolding fits_store
returns c = rw (← c.bytes_in_use.ensures) (search (cases, not-false) depth 8)
