use Rattle.holds.specs.Holds.{clash_records}
use Rattle.request_table.proofs.Listed.{one_told}
use Rattle.device_scans.proofs.slot_holds.Goals as goal

pub returns-in-Running : goal.returns-in-Running
unfolding clash_records
returns-in-Running c = rw c.in-Running.is (one_told _ _ c.clashes_at.ensures)
