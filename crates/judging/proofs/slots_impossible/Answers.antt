use Rattle.std.proofs.Common.{refl, sym, ◌∙◌, true, ℕ, arith, get_or}
use Rattle.hold_codes.specs.Codes.{no_hold, has_code}
use Rattle.judging.specs.Scan.{passed_none, passed_free, passed_all, seen_more, seen_same, wrong_told, second_told, clash_told, more_told, clear_told}
use Rattle.judging.specs.Writers.{writers_none, writers_free, writers_read, writers_more, read_clear, read_met, write_meets}
use borrow.Author.Rules.{rules}
use Rattle.judging.proofs.slots_impossible.Goals as goal
use Rattle.judging.proofs.slots_impossible.Goals.{then-judged+else-seen, else-judged}

pub loop-i-init : goal.loop-i-init
loop-i-init c = (search rules, passed_none _ _ _ _ c.nothing-none.ensures refl, writers_none _ c.nothing-none.ensures)

pub loop-i-preserved-then-dev-i-eq0 : goal.loop-i-preserved-then-dev-i-eq0
loop-i-preserved-then-dev-i-eq0 c = (
  search rules,
  passed_free _ _ _ _ _ c.loop-i.invariant.1 c.if-dev-i-eq0.true,
  writers_free c.loop-i.invariant.2,
)

pub returns-in_default : goal.returns-in_default
returns-in_default c = wrong_told _ _ _ _ _ _ c.loop-i-test.true c.loop-i.invariant.1 c.if-dev-i-eq0.false c.judge_at.ensures c.in_default.is

pub returns-then-seen : goal.returns-then-seen
returns-then-seen c = second_told _ _ _ _ _ _ c.loop-i-test.true c.loop-i.invariant.1 c.if-dev-i-eq0.false c.judge_at.ensures _ c.in-Some.is c.if-judged.true c.if-seen.true

pub returns-then-has : goal.returns-then-has
returns-then-has c =
    let w = c.loop-i.invariant.2 in
    let h = c.loop-j-test.true in
    clash_told _ _ _ _ _ _ c.loop-i-test.true c.loop-i.invariant.1 c.if-dev-i-eq0.false c.judge_at.ensures
    _ c.in-Some.is (w.only _ h).place true (w.only _ h).below
    (sym (read_met w _ c.if-hold-eq0.true _ h (sym c.has.ensures ∙ c.if-has.true))) refl

pub loop-j-preserved : goal.loop-j-preserved
loop-j-preserved c = (
  search rules,
  clear_told (λ (l : ℕ). has_code c.in-Some.judged.hold (get_or c.loop-i.written l 0)) _ _
      c.loop-j.invariant.1 c.has.ensures c.if-has.false,
)

pub loop-i-preserved-then-hold-eq0 : goal.loop-i-preserved-then-hold-eq0
loop-i-preserved-then-hold-eq0 c = (
  search rules,
  more_told _ _ _ _ _ _ c.loop-i-test.true c.loop-i.invariant.1 c.if-dev-i-eq0.false c.judge_at.ensures
      _ c.in-Some.is c.loop-i.i _
      (elim c.if-judged.branch [
        | then-judged+else-seen w ↦ seen_more _ _ _ w.if-judged.true w.if-seen.false w.seen-is
        | else-judged w ↦ seen_same _ _ _ w.if-judged.false w.seen-is
      ])
      (λ m y. read_clear c.loop-i.invariant.2 _ c.if-hold-eq0.true (λ l h. c.loop-j.invariant.1 l (omega (arith, h, c.loop-j-test.false))) m)
      (omega arith),
  writers_read c.loop-i.invariant.2 _ c.loop-i-test.true c.if-hold-eq0.true,
)

pub returns-then-has-2 : goal.returns-then-has-2
returns-then-has-2 c =
    clash_told _ _ _ _ _ _ c.loop-i-test.true c.loop-i.invariant.1 c.if-dev-i-eq0.false c.judge_at.ensures
    _ c.in-Some.is _ _ c.loop-j-2-test.true
    (c.has-in-loop-j-2.ensures ∙ sym (write_meets _ _ c.if-hold-eq0.false)) c.if-has-2.true

pub loop-j-2-preserved : goal.loop-j-2-preserved
loop-j-2-preserved c = (
  search rules,
  clear_told (λ (m : ℕ). has_code (get_or c.loop-i.holds m no_hold) c.in-Some.judged.hold.written) _ _
      c.loop-j-2.invariant.1 c.has-in-loop-j-2.ensures c.if-has-2.false,
)

pub loop-i-preserved : goal.loop-i-preserved
loop-i-preserved c = (
  search rules,
  more_told _ _ _ _ _ _ c.loop-i-test.true c.loop-i.invariant.1 c.if-dev-i-eq0.false c.judge_at.ensures
      _ c.in-Some.is _ _
      (elim c.if-judged.branch [
        | then-judged+else-seen w ↦ seen_more _ _ _ w.if-judged.true w.if-seen.false w.seen-is
        | else-judged w ↦ seen_same _ _ _ w.if-judged.false w.seen-is
      ])
      (λ m y. write_meets _ _ c.if-hold-eq0.false ∙ c.loop-j-2.invariant.1 m y) c.loop-j-2-test.false,
  writers_more c.loop-i.invariant.2 _ c.loop-i-test.true c.if-hold-eq0.false,
)

pub returns : goal.returns
returns c = passed_all _ _ _ _ _ c.loop-i.invariant.1 c.loop-i.invariant.0 c.loop-i-test.false
