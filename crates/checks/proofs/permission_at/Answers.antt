use Rattle.std.proofs.Common.{◌∙◌}
use Rattle.words.specs.Parts.{part}
use native.Mathlib.Nat.{add-sub_cancel_left}
use Rattle.checks.proofs.permission_at.Goals as goal

pub returns : goal.returns
unfolding part
returns c =
    let size = c.size_of.ensures in
    (c.permission.ensures.0 ∙ rw (add-sub_cancel_left, size), c.permission.ensures.1 ∙ rw (add-sub_cancel_left, size))
