use Rattle.std.proofs.Common.{◌∙◌}
use Rattle.slot_judging.specs.Requests.{op_judged_lem}
use Rattle.slot_judging.proofs.command.Goals as goal

pub returns : goal.returns
returns c =
    rw c.in_ok-found.was
    (c.on_op.ensures ∙ op_judged_lem _ _ _ _ _ _ c.ranges.index.fits)
