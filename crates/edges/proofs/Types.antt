-- Laws about the definitions of specs/Types.antt.
use Rattle.std.specs.Prelude.{◌≡◌, refl, true, ℕ, ◌<◌, eqb, Ok, Err}
use Rattle.std.proofs.Common.{ap, arith, ne_eqb}
use Rattle.std.proofs.Math.Decide.{dec_lt}
use Rattle.words.specs.Choice.{pick}
use Rattle.words.proofs.Choice.{both_left, both_right}
use Rattle.edges.specs.States.{rc, uc, ud}
use Rattle.edges.specs.Edges.{is, permits_edge, is_active, write_keeps, write_fails, is_sending, write_stops, permits_write}
use Rattle.edges.specs.Edges.{permits_some, for_some_type, judge_of, edge_verdict_number}
use Rattle.edges.specs.Every.{every_below, AsUc, alike}
use Rattle.edges.proofs.Every.{each_below, none_permitted, permits_as_uc, all_alike}
use Rattle.edges.specs.declared.Move.{Move}
use Rattle.edges.specs.declared.Move.TheVariants.{Command, Engine}
use Rattle.edges.specs.Types.{code_right, gets88, stops_rc}
use Rattle.edges.specs.declared.EdgeDenial.TheVariants as edgeDenial

-- ---- the proof: one test of every move from every code below 7, for RC and for UC; from a code above nothing is permitted
gets88_as_uc : (code : ℕ) → AsUc (gets88 code)
unfolding judge_of
gets88_as_uc code asked service e =
    ap (λ b. eqb (edge_verdict_number (pick b (Ok tt) (pick (for_some_type asked code) (Err edgeDenial.NotForType) (Err edgeDenial.NotPermitted)))) 0x88)
    (permits_as_uc code asked service e)

stops_rc_as_uc : (code : ℕ) → AsUc (stops_rc code)
stops_rc_as_uc code asked service e = rw e

tested : every_below 7 code_right ≡ true
unfolding permits_edge is_active write_keeps write_fails is_sending write_stops permits_write permits_some judge_of
tested = refl

past : (code : ℕ) → 6 < code → (asked : Move) (service : ℕ) → gets88 code asked service ≡ stops_rc code asked service
unfolding judge_of permits_some
past code h (Command edge) service =
    rw (none_permitted code h (Command edge) service)
    (rw (ne_eqb code 3 (λ e. omega (arith, e, h))) (rw (ne_eqb code 5 (λ e. omega (arith, e, h)))))
past code h (Engine to) service =
    rw (none_permitted code h (Engine to) service)
    (rw (none_permitted code h (Engine to) rc)
    (rw (none_permitted code h (Engine to) uc)
    (rw (none_permitted code h (Engine to) ud)
    (rw (ne_eqb code 3 (λ e. omega (arith, e, h))) (rw (ne_eqb code 5 (λ e. omega (arith, e, h))))))))

-- A move gets 0x88 exactly if it would leave RTS or SQD for SQE by an engine write, and the type is RC.
pub exactly : (asked : Move) (code service : ℕ) → gets88 code asked service ≡ stops_rc code asked service
exactly asked code service = go (dec_lt code 7)
  where
    go : Dec (code < 7) → gets88 code asked service ≡ stops_rc code asked service
    go (yes h) =
        let t = each_below 7 code_right tested code h in
        all_alike (gets88 code) (stops_rc code) (gets88_as_uc code) (stops_rc_as_uc code)
        (both_left _ (alike (gets88 code) (stops_rc code) uc) t) (both_right (alike (gets88 code) (stops_rc code) rc) _ t) asked service
    go (no h) = past code (omega (arith, h)) asked service
