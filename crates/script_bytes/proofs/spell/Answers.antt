use Rattle.script_bytes.specs.Turns.{step_first}
use Rattle.words.proofs.Maps.{none_map_first, done_map_first}
use borrow.Author.Rules.{rules}
use Rattle.script_bytes.proofs.spell.Goals as goal

pub loop-j-init : goal.loop-j-init
loop-j-init c = search (rules, none_map_first)

pub loop-j-preserved : goal.loop-j-preserved
loop-j-preserved c = search (rules, step_first)

pub returns : goal.returns
returns c = search (rules, done_map_first)
