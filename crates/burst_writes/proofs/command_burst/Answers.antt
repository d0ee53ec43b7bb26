use Rattle.std.proofs.Common.{sym}
use Rattle.owner_bursts.specs.Maps.{zero_map}
use Rattle.words.proofs.Maps.{map_same}
use Rattle.burst_writes.proofs.command_burst.Goals as goal

pub returns-in-Hw2Sw : goal.returns-in-Hw2Sw
returns-in-Hw2Sw c =
    let pre = c.requires in
    rw c.in-Hw2Sw.is (zero_map _ _ _ c.requires.burst.long c.zero_burst.ensures)

pub returns-in-QueryQp : goal.returns-in-QueryQp
returns-in-QueryQp c = rw c.in-QueryQp.is (sym (map_same _ _))
