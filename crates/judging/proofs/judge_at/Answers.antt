use Rattle.judging.specs.Scan.{at_told}
use Rattle.judging.proofs.judge_at.Goals as goal

pub returns : goal.returns
returns c = at_told _ _ _ _ c.judge.ensures
