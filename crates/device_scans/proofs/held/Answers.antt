use Rattle.device_scans.specs.Scans.{held_passed, held_clear, held_found, held_none}
use borrow.Author.Rules.{rules}
use Rattle.device_scans.proofs.held.Goals as goal

pub loop-i-preserved-then-not-may_hold : goal.loop-i-preserved-then-not-may_hold
loop-i-preserved-then-not-may_hold c = search (rules, held_passed)

pub returns-then-slot_holds : goal.returns-then-slot_holds
returns-then-slot_holds c = search (rules, held_found)

pub loop-i-preserved : goal.loop-i-preserved
loop-i-preserved c = search (rules, held_clear)

pub returns : goal.returns
returns c = search (rules, held_none)
