use Rattle.std.proofs.Common.{not, refl, ◌∙◌, ap, arith}
use Rattle.deciding.specs.Ready.{told_not, short, long}
use Rattle.rules.specs.Admission.{decide_verdict, decide_request}
use Rattle.words.proofs.Choice.{pick_yes, pick_no, told, cases}
use Rattle.deciding.proofs.decide_known.Goals as goal

pub returns-then-mail-need : goal.returns-then-mail-need
unfolding decide_request
returns-then-mail-need c row room h f = pick_yes _ _ _ _ (short _ _ _ c.need.ensures (omega arith)) refl

pub returns-then-not-content_holds : goal.returns-then-not-content_holds
unfolding decide_request
returns-then-not-content_holds c row room h f = search (cases, told_not, short, long) depth 12

pub returns-then-held : goal.returns-then-held
unfolding decide_request
returns-then-held c row room h f = search (cases, told_not, short, long) depth 12

pub returns : goal.returns
unfolding decide_request
returns c row room h f =
    pick_no _ _ _ _ (long _ _ _ c.need.ensures c.if-mail-need.false)
    (pick_no _ _ _ _ (told_not _ _ _ c.content_holds.ensures (ap not c.if-not-content_holds.false))
    (pick_no _ _ _ _ (told _ _ _ h c.if-held.false)
    (c.decide_verdict.ensures _ _ _ _ f ∙ ap (decide_verdict _ _) c.permission.ensures)))
