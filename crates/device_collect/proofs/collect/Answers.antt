use Rattle.device_collect.specs.Collections.{collect_refused_lem, looked_up, collect_goes}
use Rattle.lengths.proofs.Lengths.{lent_told}
use Rattle.rules.specs.Collections.{collect_of}
use Rattle.rules.specs.World.{bad_state}
use Rattle.words.proofs.Choice.{cases}
use borrow.Author.Rules.{rules}
use Rattle.device_collect.proofs.collect.Goals as goal

pub returns-then-lengths_wrong : goal.returns-then-lengths_wrong
unfolding collect_of bad_state
returns-then-lengths_wrong c = search (collect_refused_lem, cases, lent_told) depth 10

pub returns-then-is_impossible : goal.returns-then-is_impossible
unfolding collect_of bad_state
returns-then-is_impossible c = search (collect_refused_lem, cases, lent_told) depth 10

pub collect_slot-requires : goal.collect_slot-requires
collect_slot-requires c = search (rules, looked_up)

pub returns : goal.returns
returns c = search (rules, collect_goes, c.collect_slot.ensures)
