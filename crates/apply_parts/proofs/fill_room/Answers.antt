use Rattle.apply_parts.proofs.Parts.{fill_leaves}
use borrow.Author.Rules.{rules}
use Rattle.apply_parts.proofs.fill_room.Goals as goal

pub returns : goal.returns
returns c = search (rules, fill_leaves)
