use Rattle.std.proofs.Common.{⊎_elim, List, [], ◌∷◌, Bool, true, false, ◌≡◌, refl, sym, ◌∙◌, ℕ, arith, length, get_or}
use Rattle.context.specs.declared.Record.{Record}
use Rattle.holds.proofs.Clashes.{records_more, records_found, records_none, running_is}
use Rattle.holds.specs.Holds.{clash_records, clash_status, clash_slot}
use Rattle.request_table.specs.Records.{list_of}
use Rattle.rows.proofs.Scans.{any_more, any_found, any_none}
use Rattle.slots.specs.Slots.{slot}
use Rattle.slots.specs.declared.Status.{Status}
use Rattle.slots.specs.declared.Status.TheVariants.{Free, Running, Finished}
use denote.Enum.Declared.{tag_of, declared}
use types.Run.{OneOf}
use borrow.Author.Rules.{rules}
use Rattle.slots.specs.contracts.Status as Status'
use Rattle.hold_scans.proofs.held_from.Goals as goal

-- a status whose tag is not a running one's
not-running : (s : Status) (w : Bool) (Xs : List Record)
    → OneOf (0 ∷ 2 ∷ []) (tag_of (declared Status'.enum) s) → clash_status w Xs s ≡ false
not-running Free w Xs t = refl
not-running (Running m q) w Xs t = absurd (⊎_elim (λ (e : ◌≡◌ {A = ℕ} 1 0). omega arith) (λ (e : ◌≡◌ {A = ℕ} 1 2). omega arith) t)
not-running (Finished m q) w Xs t = refl

pub loop-i-preserved-in_default : goal.loop-i-preserved-in_default
loop-i-preserved-in_default c = search (rules, any_more, not-running)

pub loop-j-preserved : goal.loop-j-preserved
loop-j-preserved c = (
  search rules,
  records_more _ _ _ _ _ _ c.count-count.ensures c.loop-j-test.true
      (sym c.clashes_at.ensures ∙ c.if-not-clashes_at.true) c.loop-j.invariant.1,
)

pub returns-in-loop-j : goal.returns-in-loop-j
returns-in-loop-j c =
    let pair : clash_records _ c.args.writes (list_of c.args.records) ≡ true =
    records_found _ _ _ _ _ c.count-count.ensures c.loop-j-test.true
    (sym c.clashes_at.ensures ∙ c.if-not-clashes_at.false) c.loop-j.invariant.1 in
    let hit : clash_slot c.args.writes (list_of c.args.records) (get_or c.args.row c.loop-i.i (slot Free)) ≡ true =
    running_is c.in-Running.is _ _ true pair in
    let eight : length c.args.row ≡ 8 = search rules in
    any_found _ _ _ _ eight c.loop-i-test.true hit c.loop-i.invariant.2

pub loop-i-preserved : goal.loop-i-preserved
loop-i-preserved c = search (rules, any_more, records_none, running_is c.in-Running.is)

pub returns : goal.returns
returns c = search (rules, any_none)
