use Rattle.device_scans.specs.Passed.{may_hold, may_indexed, may_joined}
use Rattle.words.proofs.Choice.{cases}
use borrow.Author.Rules.{rules}
use Rattle.device_scans.proofs.may_hold.Goals as goal

pub returns-then-dev-at-ne1 : goal.returns-then-dev-at-ne1
unfolding may_hold
returns-then-dev-at-ne1 c = search cases depth 10

pub returns-then-read_le32-number : goal.returns-then-read_le32-number
returns-then-read_le32-number c = search (rules, may_indexed)

pub returns : goal.returns
returns c = search (rules, may_joined)
