use Rattle.std.proofs.Common.{refl}
use Rattle.edges.specs.Edges.{permits_edge, is_active, write_keeps, write_fails, is_sending, write_stops, permits_write}
use Rattle.edges.proofs.Lines.{line, last_line}
use borrow.Author.Rules.{rules}
use Rattle.edges.proofs.leads.Goals as goal

pub returns-in-0 : goal.returns-in-0
unfolding permits_edge is_active write_keeps write_fails is_sending write_stops permits_write
returns-in-0 c = line _ _ _ c.in-0.is (refl, refl)

pub returns-in-1 : goal.returns-in-1
unfolding permits_edge is_active write_keeps write_fails is_sending write_stops permits_write
returns-in-1 c = line _ _ _ c.in-1.is (refl, refl)

pub returns-in-2 : goal.returns-in-2
unfolding permits_edge is_active write_keeps write_fails is_sending write_stops permits_write
returns-in-2 c = line _ _ _ c.in-2.is (refl, refl)

pub returns-in-3 : goal.returns-in-3
unfolding permits_edge is_active write_keeps write_fails is_sending write_stops permits_write
returns-in-3 c = line _ _ _ c.in-3.is (refl, refl)

pub returns-in-4 : goal.returns-in-4
unfolding permits_edge is_active write_keeps write_fails is_sending write_stops permits_write
returns-in-4 c = line _ _ _ c.in-4.is (refl, refl)

pub returns-in-5 : goal.returns-in-5
unfolding permits_edge is_active write_keeps write_fails is_sending write_stops permits_write
returns-in-5 c = line _ _ _ c.in-5.is (refl, refl)

pub returns-in-6 : goal.returns-in-6
unfolding permits_edge is_active write_keeps write_fails is_sending write_stops permits_write
returns-in-6 c = line _ _ _ c.in-6.is (refl, refl)

pub returns-in_default : goal.returns-in_default
returns-in_default c = search (rules, last_line) depth 12
