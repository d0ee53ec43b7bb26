use borrow.Author.Rules.{rules}
use Rattle.script_bytes.specs.Turns.{front_least}
use Rattle.script_bytes.proofs.front.Goals as goal

pub returns : goal.returns
returns c = front_least _ _ _ (search rules)
