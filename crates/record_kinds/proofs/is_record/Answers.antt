use Rattle.context.specs.Layout.{is_record}
use Rattle.record_kinds.proofs.is_record.Goals as goal

pub returns : goal.returns
unfolding is_record
returns c =
    rw (
      ← c.kind_of.ensures,
      ← c.log_of.ensures,
      ← c.number_of.ensures,
    )
    c.below_count.ensures
