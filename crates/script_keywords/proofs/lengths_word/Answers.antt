use Rattle.std.proofs.Common.{refl}
use Rattle.script_keywords.specs.Keywords.{lengths_of}
use Rattle.words.proofs.Choice.{told, pick_yes, pick_no}
use Rattle.script_keywords.proofs.lengths_word.Goals as goal

pub returns-then-same : goal.returns-then-same
unfolding lengths_of
returns-then-same c = pick_yes _ _ _ _ (told _ _ _ c.same.ensures c.if-same.true) refl

pub returns-then-same-2 : goal.returns-then-same-2
unfolding lengths_of
returns-then-same-2 c =
    pick_no _ _ _ _ (told _ _ _ c.same.ensures c.if-same.false)
    (pick_yes _ _ _ _ (told _ _ _ c.same-2.ensures c.if-same-2.true) refl)

pub returns-then-same-3 : goal.returns-then-same-3
unfolding lengths_of
returns-then-same-3 c =
    pick_no _ _ _ _ (told _ _ _ c.same.ensures c.if-same.false)
    (pick_no _ _ _ _ (told _ _ _ c.same-2.ensures c.if-same-2.false)
    (pick_yes _ _ _ _ (told _ _ _ c.same-3.ensures c.if-same-3.true) refl))

pub returns-then-same-4 : goal.returns-then-same-4
unfolding lengths_of
returns-then-same-4 c =
    pick_no _ _ _ _ (told _ _ _ c.same.ensures c.if-same.false)
    (pick_no _ _ _ _ (told _ _ _ c.same-2.ensures c.if-same-2.false)
    (pick_no _ _ _ _ (told _ _ _ c.same-3.ensures c.if-same-3.false)
    (pick_yes _ _ _ _ (told _ _ _ c.same-4.ensures c.if-same-4.true) refl)))

pub returns : goal.returns
unfolding lengths_of
returns c =
    pick_no _ _ _ _ (told _ _ _ c.same.ensures c.if-same.false)
    (pick_no _ _ _ _ (told _ _ _ c.same-2.ensures c.if-same-2.false)
    (pick_no _ _ _ _ (told _ _ _ c.same-3.ensures c.if-same-3.false)
    (pick_no _ _ _ _ (told _ _ _ c.same-4.ensures c.if-same-4.false)
    c.contents_word.ensures)))
