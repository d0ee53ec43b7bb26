use Rattle.std.proofs.Common.{◌∙◌, refl}
use Rattle.script_device.specs.Laws.{word_told, slot_some, slot_none}
use Rattle.script_device.specs.Slots.{command_slot, engine_slot, slot_in}
use Rattle.words.proofs.Choice.{pick_yes, pick_no}
use Rattle.script_device.proofs.read_slot.Goals as goal

pub returns-then-same : goal.returns-then-same
unfolding slot_in
returns-then-same c = pick_yes _ _ _ _ (word_told _ _ _ _ _ c.same.ensures c.word.ensures c.if-same.true) c.free_slot.ensures

pub returns-then-same-2 : goal.returns-then-same-2
unfolding slot_in
returns-then-same-2 c =
    pick_no _ _ _ _ (word_told _ _ _ _ _ c.same.ensures c.word.ensures c.if-same.false)
    (pick_yes _ _ _ _ (word_told _ _ _ _ _ c.same-2.ensures c.word-2.ensures c.if-same-2.true)
    (slot_some command_slot _ _ _ _ _ _ c.word-then-same-2.ensures c.numbers.ensures c.in_ok-numbers.was c.command_slot.ensures))

pub returns-in_err-numbers : goal.returns-in_err-numbers
unfolding slot_in
returns-in_err-numbers c =
    pick_no _ _ _ _ (word_told _ _ _ _ _ c.same.ensures c.word.ensures c.if-same.false)
    (pick_yes _ _ _ _ (word_told _ _ _ _ _ c.same-2.ensures c.word-2.ensures c.if-same-2.true)
    (c.from_residual.ensures ∙ slot_none _ _ _ c.numbers.ensures c.in_err-numbers.was))

pub returns-in_err-numbers-2 : goal.returns-in_err-numbers-2
unfolding slot_in
returns-in_err-numbers-2 c =
    pick_no _ _ _ _ (word_told _ _ _ _ _ c.same.ensures c.word.ensures c.if-same.false)
    (pick_no _ _ _ _ (word_told _ _ _ _ _ c.same-2.ensures c.word-2.ensures c.if-same-2.false)
    (pick_yes _ _ _ _ (word_told _ _ _ _ _ c.same-3.ensures c.word-3.ensures c.if-same-3.true)
    (c.from_residual-in_err-numbers-2.ensures ∙ slot_none _ _ _ c.numbers-then-same-3.ensures c.in_err-numbers-2.was)))

pub returns-then-same-3 : goal.returns-then-same-3
unfolding slot_in
returns-then-same-3 c =
    pick_no _ _ _ _ (word_told _ _ _ _ _ c.same.ensures c.word.ensures c.if-same.false)
    (pick_no _ _ _ _ (word_told _ _ _ _ _ c.same-2.ensures c.word-2.ensures c.if-same-2.false)
    (pick_yes _ _ _ _ (word_told _ _ _ _ _ c.same-3.ensures c.word-3.ensures c.if-same-3.true)
    (slot_some engine_slot _ _ _ _ _ _ c.word-then-same-3.ensures c.numbers-then-same-3.ensures c.in_ok-numbers-2.was c.engine_slot.ensures)))

pub returns : goal.returns
unfolding slot_in
returns c =
    pick_no _ _ _ _ (word_told _ _ _ _ _ c.same.ensures c.word.ensures c.if-same.false)
    (pick_no _ _ _ _ (word_told _ _ _ _ _ c.same-2.ensures c.word-2.ensures c.if-same-2.false)
    (pick_no _ _ _ _ (word_told _ _ _ _ _ c.same-3.ensures c.word-3.ensures c.if-same-3.false) refl))
