use Rattle.std.proofs.Common.{refl}
use Rattle.script_keywords.specs.Keywords.{contents_of}
use Rattle.words.proofs.Choice.{told, pick_yes, pick_no}
use Rattle.script_keywords.proofs.contents_word.Goals as goal

pub returns-then-same : goal.returns-then-same
unfolding contents_of
returns-then-same c = pick_yes _ _ _ _ (told _ _ _ c.same.ensures c.if-same.true) refl

pub returns-then-same-2 : goal.returns-then-same-2
unfolding contents_of
returns-then-same-2 c =
    pick_no _ _ _ _ (told _ _ _ c.same.ensures c.if-same.false)
    (pick_yes _ _ _ _ (told _ _ _ c.same-2.ensures c.if-same-2.true) refl)

pub returns-then-same-3 : goal.returns-then-same-3
unfolding contents_of
returns-then-same-3 c =
    pick_no _ _ _ _ (told _ _ _ c.same.ensures c.if-same.false)
    (pick_no _ _ _ _ (told _ _ _ c.same-2.ensures c.if-same-2.false)
    (pick_yes _ _ _ _ (told _ _ _ c.same-3.ensures c.if-same-3.true) refl))

pub returns : goal.returns
unfolding contents_of
returns c =
    pick_no _ _ _ _ (told _ _ _ c.same.ensures c.if-same.false)
    (pick_no _ _ _ _ (told _ _ _ c.same-2.ensures c.if-same-2.false)
    (pick_no _ _ _ _ (told _ _ _ c.same-3.ensures c.if-same-3.false)
    c.device_word.ensures))
