use Rattle.script_bytes.specs.Turns.{step_first}
use Rattle.words.proofs.Maps.{none_map_first, done_map_first}
use borrow.Author.Rules.{rules}
use Rattle.script_bytes.proofs.fill.Goals as goal

pub loop-i-init : goal.loop-i-init
loop-i-init c = search (rules, none_map_first)

pub loop-i-preserved : goal.loop-i-preserved
loop-i-preserved c = search (rules, step_first)

pub returns : goal.returns
returns c = search (rules, done_map_first)
