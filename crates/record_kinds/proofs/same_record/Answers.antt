-- What the derived equality answers, by the kinds of the two records.
use Rattle.std.specs.Prelude.{◌≡◌, refl}
use Rattle.std.proofs.Common.{◌∙◌}
use Rattle.context.specs.declared.Record.{Record}
use Rattle.context.specs.declared.Record.TheVariants as record'
use Rattle.context.specs.contracts.RecordPartialEq.TheImpl as derived
use Rattle.context.specs.Layout.{same_record}
use Rattle.record_kinds.proofs.same_record.Goals as goal

told : (a b : Record) → derived.ghosts.eq a b ≡ same_record a b
unfolding same_record
told (record'.Qp m) (record'.Qp n) = refl
told (record'.Qp m) (record'.Cq n) = refl
told (record'.Qp m) (record'.Eq n) = refl
told (record'.Qp m) (record'.Mpt n) = refl
told (record'.Cq m) (record'.Qp n) = refl
told (record'.Cq m) (record'.Cq n) = refl
told (record'.Cq m) (record'.Eq n) = refl
told (record'.Cq m) (record'.Mpt n) = refl
told (record'.Eq m) (record'.Qp n) = refl
told (record'.Eq m) (record'.Cq n) = refl
told (record'.Eq m) (record'.Eq n) = refl
told (record'.Eq m) (record'.Mpt n) = refl
told (record'.Mpt m) (record'.Qp n) = refl
told (record'.Mpt m) (record'.Cq n) = refl
told (record'.Mpt m) (record'.Eq n) = refl
told (record'.Mpt m) (record'.Mpt n) = refl

pub returns : goal.returns
returns c = c.eq.ensures ∙ told _ _
