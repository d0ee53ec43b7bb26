-- How an entry is read off the edge decision.
use Rattle.std.specs.Prelude.{◌≡◌, refl, ℕ, Result, Ok, Err}
use Rattle.std.proofs.Common.{ap, ◌∙◌}
use Rattle.edges.specs.States.{rc}
use Rattle.edges.specs.Edges.{judge_of}
use Rattle.edges.specs.declared.Move.{Move}
use Rattle.edges.specs.declared.EdgeDenial.{EdgeDenial}
use Rattle.edges.specs.declared.EdgeDenial.TheVariants as edgeDenial
use Rattle.edge_table.specs.declared.Entry.{Entry}
use Rattle.edge_table.specs.declared.Entry.TheVariants.{Always, UnlessRc, Never}
use Rattle.edge_table.specs.Table.{entry_of, verdict_by}
use Rattle.edge_table.proofs.Exact.{exact}

-- What the verdict for RC says of the entry.
abbrev pub entry_by : Result (Unit {0}) EdgeDenial → Entry
entry_by (Ok tt) = Always
entry_by (Err edgeDenial.NotPermitted) = Never
entry_by (Err edgeDenial.NotForType) = UnlessRc

-- v is the verdict for RC, and w the one that it was found to be
pub found_entry : (asked : Move) (code : ℕ) (v w : Result (Unit {0}) EdgeDenial) → v ≡ judge_of asked code rc → v ≡ w → entry_by w ≡ entry_of asked code
found_entry asked code v w e f = rw (← f) (rw e (rw (exact.verdicts asked code rc) (told (entry_of asked code))))
  where
    told : (e : Entry) → entry_by (verdict_by e rc) ≡ e
    told Always = refl
    told UnlessRc = refl
    told Never = refl

-- the same where the verdict was found to be an error, and the error then to be d
pub found_denial : (asked : Move) (code : ℕ) (v : Result (Unit {0}) EdgeDenial) (d found : EdgeDenial) → v ≡ judge_of asked code rc → v ≡ Err d → d ≡ found
    → entry_by (Err found) ≡ entry_of asked code
found_denial asked code v d found e f g = found_entry asked code v (Err found) e (f ∙ ap Err g)
