use Rattle.checks.specs.Fields.{eq_named}
use Rattle.checks.proofs.eq_named.Goals as goal

pub returns : goal.returns
unfolding eq_named
returns c = c.read_be32.ensures
