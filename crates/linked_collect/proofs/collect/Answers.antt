use Rattle.chains.specs.Links.{collect_link}
use Rattle.linked_collect.proofs.collect.Goals as goal

pub returns : goal.returns
returns c = collect_link _ _ _ _ _ _ _ _ c.collect.ensures
