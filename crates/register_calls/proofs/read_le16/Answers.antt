use Rattle.std.proofs.Common.{◌∙◌}
use Rattle.register_calls.specs.Bytes.{number_two}
use borrow.Author.Rules.{rules}
use Rattle.register_calls.proofs.read_le16.Goals as goal

pub returns : goal.returns
returns c = c.from_le_bytes.ensures ∙ number_two _ _ (search rules)
