use Rattle.moving.specs.Moves.{write_moved, read_moved}
use borrow.Author.Rules.{rules}
use Rattle.moving.proofs.move_burst.Goals as goal

pub returns-then-writes : goal.returns-then-writes
returns-then-writes c = search (rules, write_moved)

pub returns : goal.returns
returns c = search (rules, read_moved)
