use Rattle.std.proofs.Common.{◌∙◌}
use Rattle.hcr.specs.Register.{param_at}
use Rattle.hcr_reader.proofs.read_param.Goals as goal

pub returns : goal.returns
unfolding param_at
returns c = c.join_param.ensures ∙ cc
