use Rattle.rules.specs.Admission.{decide_place}
use Rattle.deciding_joined.proofs.decide_place.Goals as goal

pub returns-in_default : goal.returns-in_default
unfolding decide_place
returns-in_default c = rw c.in_default.is

pub returns : goal.returns
unfolding decide_place
returns c = rw c.in-Some.is
