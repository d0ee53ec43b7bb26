use Rattle.checks.specs.Fields.{cq_named}
use Rattle.checks.proofs.cq_named.Goals as goal

pub returns : goal.returns
unfolding cq_named
returns c = c.read_be32.ensures
