use Rattle.exported_engine.specs.Asked.{held_asked}
use Rattle.exported_engine.proofs.decide_one.Goals as goal

pub returns : goal.returns
returns c room =
    c.decide_known.ensures _ room
    (held_asked _ _ _ _ _ c.requires.alone c.record_of.ensures c.writes.ensures
    c.held-held.ensures)
    c.lowest_free-free.ensures
