use Rattle.std.specs.Prelude.{Ok}
use Rattle.std.proofs.Common.{◌∙◌, ap}
use Rattle.exported_apply.specs.Applied.{refuse_leaves, nothing_leaves, close_leaves, open_leaves, take_leaves}
use Rattle.exported_apply.proofs.apply.Goals as goal

pub returns-in-Err : goal.returns-in-Err
returns-in-Err c = refuse_leaves _ _ _ _ _ _ c.requires _ _ c.in-Err.is (c.from.ensures ∙ c.refusal_number.ensures)

pub returns-in-Nothing : goal.returns-in-Nothing
returns-in-Nothing c = nothing_leaves _ _ _ _ _ _ c.requires _ (c.in-Ok.is ∙ ap Ok c.in-Nothing.is) c.write_header.ensures

pub returns-in-Close : goal.returns-in-Close
returns-in-Close c =
    close_leaves _ _ _ _ _ _ c.requires _ _ (c.in-Ok.is ∙ ap Ok c.in-Close.is) c.close_hca.ensures c.write_header-in-Close.ensures

pub returns-in-Open : goal.returns-in-Open
returns-in-Open c =
    open_leaves _ _ _ _ _ _ c.requires _ _ _ _ (c.in-Ok.is ∙ ap Ok c.in-Open.is) c.init_hca.ensures c.write_header-in-Open.ensures

pub returns-in-Take : goal.returns-in-Take
returns-in-Take c =
    let done = c.take_slot.ensures in
    take_leaves _ _ _ _ _ _ c.requires _ _ _ _ _ (c.in-Ok.is ∙ ap Ok c.in-Take.is) done.0 done.1 done.2
