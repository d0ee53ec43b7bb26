use Rattle.std.proofs.Common.{sym}
use Rattle.words.proofs.Maps.{map_same}
use Rattle.burst_writes.proofs.engine_burst.Goals as goal

pub returns-in-ReadState : goal.returns-in-ReadState
returns-in-ReadState c = rw c.in-ReadState.is (sym (map_same _ _))

pub returns-in-ReadNext : goal.returns-in-ReadNext
returns-in-ReadNext c = rw c.in-ReadNext.is (sym (map_same _ _))

pub returns-in-ReadAll : goal.returns-in-ReadAll
returns-in-ReadAll c = rw c.in-ReadAll.is (sym (map_same _ _))

pub returns-in-ReadJoined : goal.returns-in-ReadJoined
returns-in-ReadJoined c = rw c.in-ReadJoined.is (sym (map_same _ _))
