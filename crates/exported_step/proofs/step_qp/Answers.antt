use Rattle.std.proofs.Common.{refl}
use Rattle.exported_step.specs.Whole.{reading_moves, reading_asks, reading_left}
use Rattle.exported_step.proofs.step_qp.Goals as goal

pub read_qp_burst-requires : goal.read_qp_burst-requires
read_qp_burst-requires c = reading_moves c.requires

pub count_burst-requires-clause-m_lt_total : goal.count_burst-requires-clause-m_lt_total
count_burst-requires-clause-m_lt_total c = (reading_asks c.requires).1

pub returns : goal.returns
returns c =
    let done = c.count_burst.ensures in
    reading_left c.requires 16 refl _ _ _ c.read_qp_burst.ensures done.1 done.0
