use Rattle.std.proofs.Common.{◌∙◌, ap}
use Rattle.rules.specs.Admission.{decide_place, decide_verdict}
use borrow.Author.Rules.{rules}
use Rattle.deciding.proofs.decide_verdict.Goals as goal

pub returns-in_err-verdict : goal.returns-in_err-verdict
unfolding decide_verdict
returns-in_err-verdict c h row store room e = rw c.in_err-verdict.was (search rules)

pub returns : goal.returns
unfolding decide_verdict
returns c h row store room e = rw c.in_ok-verdict.was (c.decide_place.ensures ∙ ap (decide_place _) e)
