use Rattle.device_scans.specs.Scans.{free_passed, free_taken, free_full}
use borrow.Author.Rules.{rules}
use Rattle.device_scans.proofs.lowest_free.Goals as goal

pub returns-then-dev-k-eq0 : goal.returns-then-dev-k-eq0
returns-then-dev-k-eq0 c = search (rules, free_taken)

pub loop-k-preserved : goal.loop-k-preserved
loop-k-preserved c = search (rules, free_passed)

pub returns : goal.returns
returns c = search (rules, free_full)
