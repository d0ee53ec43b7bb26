-- Laws about the definitions of specs/Exact.antt.
use Rattle.std.specs.Prelude.{◌≡◌, refl, Bool, true, false, not, List, [], ◌∷◌, ℕ, ◌<◌, eqb, leb, Result, Ok, Err}
use Rattle.std.proofs.Common.{sym, ◌∙◌, arith, ne_eqb, leb-true}
use Rattle.std.proofs.lemmas.Bool.{false≢true}
use Rattle.std.proofs.Math.Decide.{dec_lt}
use Rattle.words.specs.Choice.{pick, either}
use Rattle.words.proofs.Choice.{both_left, both_right}
use Rattle.edges.specs.States.{rc, uc, ud}
use Rattle.edges.specs.Edges.{permits, permits_edge, is_active, write_keeps, write_fails, is_sending, write_stops, permits_write}
use Rattle.edges.specs.Edges.{permits_some, judge_of}
use Rattle.edges.specs.Every.{every_below, agrees}
use Rattle.edges.proofs.Every.{each_below, none_permitted, all_agree}
use Rattle.edges.specs.declared.Move.{Move}
use Rattle.edges.specs.declared.Move.TheVariants.{Command, Engine}
use Rattle.edges.specs.declared.EdgeDenial.{EdgeDenial}
use Rattle.edges.specs.declared.EdgeDenial.TheVariants as edgeDenial
use Rattle.edge_table.specs.declared.Entry.{Entry}
use Rattle.edge_table.specs.declared.Entry.TheVariants.{Always, UnlessRc, Never}
use Rattle.edge_table.specs.Table.{Line, line, table, entry_in, entry_of, allows, verdict_by}
use Rattle.edge_table.specs.Exact.{Exact, code_right, codes_small, tabled}

tested : every_below 16 code_right ≡ true
unfolding permits_edge is_active write_keeps write_fails is_sending write_stops permits_write
tested = refl

allows_as_uc : (e : Entry) (service : ℕ) → eqb service rc ≡ false → allows e service ≡ allows e uc
allows_as_uc Always service h = refl
allows_as_uc UnlessRc service h = rw h
allows_as_uc Never service h = refl

-- from a code that the test reaches
below : (code : ℕ) → code_right code ≡ true → (asked : Move) (service : ℕ) → tabled code asked service ≡ permits asked code service
below code t =
    all_agree (tabled code) code (λ asked. allows_as_uc (entry_in table asked code))
    (both_left _ (agrees (tabled code) code uc) t) (both_right (agrees (tabled code) code rc) _ t)

no_line : (ls : List Line) → codes_small ls ≡ true → (asked : Move) (code : ℕ) → 15 < code → entry_in ls asked code ≡ Never
no_line [] t asked code h = refl
no_line (line n cs ws ∷ ls) t asked code h =
    rw (ne_eqb code n (λ e. omega (arith, h, e, leb-true n 15 (both_left _ (codes_small ls) t))))
    (no_line ls (both_right (leb n 15) _ t) asked code h)

permitted_is : (asked : Move) (code service : ℕ) → allows (entry_of asked code) service ≡ permits asked code service
unfolding entry_of
permitted_is asked code service = go (dec_lt code 16)
  where
    go : Dec (code < 16) → allows (entry_of asked code) service ≡ permits asked code service
    go (yes h) = below code (each_below 16 code_right tested code h) asked service
    go (no h) = rw (no_line table refl asked code (omega (arith, h))) (sym (none_permitted code (omega (arith, h)) asked service))

-- ---- the verdict, from what the entry allows; a command's entry is not for some types alone, since no command is asked for the type
by_entry : (e : Entry) (service : ℕ)
    → pick (allows e service) (Ok tt) (pick (either (allows e rc) (either (allows e uc) (allows e ud))) (Err edgeDenial.NotForType) (Err edgeDenial.NotPermitted))
    ≡ verdict_by e service
by_entry Always service = refl
by_entry UnlessRc service = go (eqb service rc)
  where
    go : (b : Bool) → pick {A = Result (Unit {0}) EdgeDenial} (not b) (Ok tt) (Err edgeDenial.NotForType) ≡ pick b (Err edgeDenial.NotForType) (Ok tt)
    go true = refl
    go false = refl
by_entry Never service = refl

untyped : (e : Entry) (service : ℕ) → allows e rc ≡ allows e uc → pick (allows e service) (Ok tt) (Err edgeDenial.NotPermitted) ≡ verdict_by e service
untyped Always service h = refl
untyped UnlessRc service h = absurd (false≢true h)
untyped Never service h = refl

verdict_is : (asked : Move) (code service : ℕ) → judge_of asked code service ≡ verdict_by (entry_of asked code) service
unfolding judge_of permits_some
verdict_is (Command edge) code service =
    rw (← permitted_is (Command edge) code service)
    (untyped (entry_of (Command edge) code) service (permitted_is (Command edge) code rc ∙ sym (permitted_is (Command edge) code uc)))
verdict_is (Engine to) code service =
    rw (← permitted_is (Engine to) code service)
    (rw (← permitted_is (Engine to) code rc)
    (rw (← permitted_is (Engine to) code uc)
    (rw (← permitted_is (Engine to) code ud) (by_entry (entry_of (Engine to) code) service))))

pub exact : Exact
exact = record { permitted = permitted_is; verdicts = verdict_is; codes = refl; moves = refl }
