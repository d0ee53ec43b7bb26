use Rattle.std.proofs.Common.{true, false, ◌≡◌, sym, ◌∙◌, ◌≤◌, length}
use Rattle.possible.specs.Possible.{pair_wrong}
use Rattle.possible.proofs.Turns.{wrong_not, wrong_slot, wrong_pair, wrong_free, past_told, nest_told}
use Rattle.rows.proofs.Every.{at}
use Rattle.rows.proofs.Scans.{any_more, any_found, any_none, rest_more, rest_found, rest_none}
use borrow.Author.Rules.{rules}
use Rattle.state_checks.proofs.open_impossible.Goals as goal

pub returns-then-not-fits_store : goal.returns-then-not-fits_store
returns-then-not-fits_store c = past_told _ _ _ (sym c.fits_store.ensures ∙ c.if-not-fits_store.true)

pub loop-i-preserved-then-not-is_occupied : goal.loop-i-preserved-then-not-is_occupied
loop-i-preserved-then-not-is_occupied c =
    let eight : length c.args.row ≡ 8 = search rules in (
      search rules,
      rest_more _ _ c.loop-i.i _ eight c.loop-i-test.true
          (wrong_free _ _ _ (sym c.is_occupied.ensures ∙ c.if-not-is_occupied.true))
          c.loop-i.invariant.1,
    )

pub returns-then-slot_wrong : goal.returns-then-slot_wrong
returns-then-slot_wrong c =
    let eight : length c.args.row ≡ 8 = search rules in
    nest_told _ _ _ _ (sym c.fits_store.ensures ∙ c.if-not-fits_store.false)
    (rest_found _ _ _ c.loop-i.i eight c.loop-i-test.true
    (wrong_slot _ _ _ (sym c.slot_wrong.ensures ∙ c.if-slot_wrong.true))
    c.loop-i.invariant.1)

pub returns-then-pair_wrong : goal.returns-then-pair_wrong
returns-then-pair_wrong c =
    let eight : length c.args.row ≡ 8 = search rules in
    let hit = any_found (pair_wrong (at c.args.row c.loop-i.i)) _ _ c.loop-j.j eight
    c.loop-j-test.true (sym c.pair_wrong.ensures ∙ c.if-pair_wrong.true) c.loop-j.invariant.2 in
    nest_told _ _ _ _ (sym c.fits_store.ensures ∙ c.if-not-fits_store.false)
    (rest_found _ _ _ c.loop-i.i eight c.loop-i-test.true
    (wrong_pair _ _ _ hit)
    c.loop-i.invariant.1)

pub loop-j-preserved : goal.loop-j-preserved
loop-j-preserved c =
    let eight : length c.args.row ≡ 8 = search rules in (
      search rules,
      search rules,
      any_more _ _ c.loop-j.j _ eight c.loop-j-test.true
          (sym c.pair_wrong.ensures ∙ c.if-pair_wrong.false) c.loop-j.invariant.2,
    )

pub loop-i-preserved : goal.loop-i-preserved
loop-i-preserved c =
    let eight : length c.args.row ≡ 8 = search rules in
    let past : 8 ≤ c.loop-j.j = search rules in
    let none = any_none (pair_wrong (at c.args.row c.loop-i.i)) _ _ c.loop-j.j eight
    past c.loop-j.invariant.2 in (
      search rules,
      rest_more _ _ c.loop-i.i _ eight c.loop-i-test.true
          (wrong_not _ _ _ (sym c.slot_wrong.ensures ∙ c.if-slot_wrong.false) (sym none))
          c.loop-i.invariant.1,
    )

pub returns : goal.returns
returns c =
    let eight : length c.args.row ≡ 8 = search rules in
    let past : 8 ≤ c.loop-i.i = search rules in
    nest_told _ _ _ _ (sym c.fits_store.ensures ∙ c.if-not-fits_store.false)
    (rest_none _ _ _ c.loop-i.i eight past c.loop-i.invariant.1)
