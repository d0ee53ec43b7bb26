use Rattle.std.proofs.Common.{◌∙◌}
use Rattle.slot_judging.specs.Requests.{number_judged_lem}
use Rattle.slot_judging.proofs.engine.Goals as goal

pub returns : goal.returns
returns c =
    rw c.in_ok-found.was
    (c.on_queue_pair.ensures ∙ number_judged_lem _ _ _ _ _ _ c.ranges.n.fits)
