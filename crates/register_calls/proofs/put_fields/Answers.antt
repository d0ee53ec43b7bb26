use Rattle.std.proofs.Common.{◌∙◌}
use Rattle.hcr.proofs.Fields.{bit_is}
use Rattle.register_calls.specs.Bytes.{two_set}
use Rattle.register_calls.specs.Made.{fields_put}
use borrow.Author.Rules.{rules}
use Rattle.register_calls.proofs.put_fields.Goals as goal

pub returns : goal.returns
returns c =
    fields_put _ _ _ _ _ _ _ _ _ _
    c.fill.ensures
    (two_set _ _ _ _ (search rules))
    (c.from.ensures ∙ bit_is _)
    c.write_le16-2.ensures
    c.write_le16.ensures
    c.write_le32.ensures
    c.write_le64-2.ensures
    c.write_le64.ensures
    (search rules)
