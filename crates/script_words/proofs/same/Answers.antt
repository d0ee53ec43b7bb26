use Rattle.std.proofs.Common.{rules}
use Rattle.script_words.proofs.Turns.{same_as, whole}
use Rattle.script_words.proofs.same.Goals as goal

pub returns : goal.returns
returns c = search (rules, same_as, whole) depth 12
