use Rattle.std.proofs.Common.{◌∙◌, arith}
use Rattle.context.specs.Layout.{bytes_of}
use Rattle.context.proofs.Records.{record_small, record_inside}
use Rattle.records.specs.Memory.{record_in}
use Rattle.words.specs.Parts.{part}
use native.Mathlib.Nat.{add-sub_cancel_left}
use Rattle.records.proofs.cq_named.Goals as goal

pub overflow_add-end : goal.overflow_add-end
overflow_add-end c = omega (arith, c.record_at-at.ensures, record_small _ _ c.requires.logs_value c.requires.n_value)

pub slice_bounds-cq_named-end : goal.slice_bounds-cq_named-end
slice_bounds-cq_named-end c = omega (arith, c.record_at-at.ensures, record_inside _ _ c.requires.n_value, c.requires.fits)

pub returns : goal.returns
unfolding part record_in bytes_of
returns c = c.cq_named.ensures ∙ rw (add-sub_cancel_left, c.record_at-at.ensures)
