use Rattle.rules.specs.Engines.{decide_asked}
use Rattle.exported_engine.proofs.decide_asked.Goals as goal

pub returns-in_default : goal.returns-in_default
unfolding decide_asked
returns-in_default c room = rw c.in_default.is

pub returns-in-OnRecord : goal.returns-in-OnRecord
unfolding decide_asked
returns-in-OnRecord c room = rw (c.in-Some.is, c.in-OnRecord.is) (c.decide_one.ensures room)

pub returns-in-Joined : goal.returns-in-Joined
unfolding decide_asked
returns-in-Joined c room = rw (c.in-Some.is, c.in-Joined.is, ← c.read_row.ensures) (c.decide_joined.ensures room)
