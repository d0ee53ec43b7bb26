use Rattle.lengths.specs.Lengths.{lengths_wrong}
use Rattle.words.proofs.Choice.{cases}
use borrow.Author.Tests.{not-true, not-false}
use Rattle.lengths.proofs.lengths_wrong.Goals as goal

pub returns-then-room-lt-ROOM : goal.returns-then-room-lt-ROOM
unfolding lengths_wrong
returns-then-room-lt-ROOM c = search cases depth 8

pub returns-then-not-hca : goal.returns-then-not-hca
unfolding lengths_wrong
returns-then-not-hca c = search (cases, not-true) depth 8

pub returns : goal.returns
unfolding lengths_wrong
returns c = search (cases, not-false) depth 8
