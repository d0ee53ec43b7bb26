use Rattle.std.proofs.Common.{refl, ◌∙◌, ap}
use Rattle.rules.specs.Admission.{decide_place}
use Rattle.rules.specs.Engines.{decide_eq}
use Rattle.words.proofs.Choice.{pick_yes, pick_no, told}
use Rattle.deciding_joined.proofs.decide_eq.Goals as goal

pub returns-then-read_held : goal.returns-then-read_held
unfolding decide_eq
returns-then-read_held c h store room = rw c.in-Some.is (pick_yes _ _ _ _ (told _ _ _ c.read_held.ensures c.if-read_held.true) refl)

pub returns : goal.returns
unfolding decide_eq
returns c h store room =
    rw c.in-Some.is
    (pick_no _ _ _ _ (told _ _ _ c.read_held.ensures c.if-read_held.false)
    (c.decide_place.ensures ∙ ap (decide_place _) c.lowest_free.ensures))

pub returns-in_default : goal.returns-in_default
unfolding decide_eq
returns-in_default c h store room = rw c.in_default.is
