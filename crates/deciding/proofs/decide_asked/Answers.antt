use Rattle.rules.specs.Engines.{decide_asked}
use Rattle.deciding.proofs.decide_asked.Goals as goal

pub decide_request-requires : goal.decide_request-requires
decide_request-requires c = c.requires.stored _ (rw (← c.in-OnRecord.is) c.in-Some.is)

pub decide_joined-requires : goal.decide_joined-requires
decide_joined-requires c = c.requires.joined _ (rw (← c.in-Joined.is) c.in-Some.is)

pub returns-in-OnRecord : goal.returns-in-OnRecord
unfolding decide_asked
returns-in-OnRecord c room = rw (c.in-Some.is, c.in-OnRecord.is) (c.decide_request.ensures room)

pub returns-in-Joined : goal.returns-in-Joined
unfolding decide_asked
returns-in-Joined c room = rw (c.in-Some.is, c.in-Joined.is) (c.decide_joined.ensures room)

pub returns-in_default : goal.returns-in_default
unfolding decide_asked
returns-in_default c room = rw c.in_default.is
