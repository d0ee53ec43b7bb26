use Rattle.std.proofs.Common.{refl}
use Rattle.bursts.proofs.Leaves.{copied_through}
use Rattle.bursts.proofs.read_burst.Goals as goal

pub returns : goal.returns
returns c =
    let pre = c.requires in
    let held = c.copy_to.ensures in
    copied_through _ _ _ _ _ c.requires.from_len refl c.requires.to_len held c.copy_to-2.ensures
