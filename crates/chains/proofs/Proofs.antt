-- The claims are proved: a chain's worlds, answers and journal are those of the run of its calls by the rules, of which `rules` has the
-- theorems.
use Rattle.std.specs.Prelude.{◌≡◌, refl, Bool, true, false, List, [], ◌∷◌, map, replicate}
use Rattle.std.proofs.Common.{sym, ◌∙◌, ap, ap₂, subst}
use Rattle.words.specs.Choice.{pick}
use Rattle.context.specs.Layout.{is_record, record_size}
use Rattle.context.specs.declared.Logs.{Logs}
use Rattle.context.specs.declared.Record.{Record}
use Rattle.rules.specs.World.{World}
use Rattle.rules.specs.Admission as admission
use Rattle.rules.specs.Steps as steps
use Rattle.rules.specs.Collections as collections
use Rattle.rules.specs.Resets as resets
use Rattle.rules.specs.Calls as rules
use Rattle.rules.specs.Calls.{Call, command, engine_request, step, collection, resetting}
use Rattle.rules.specs.Calls.{Answer, submitted, stepped, collected, reset_done, answer_to, world_after, begins, stops, note_of}
use Rattle.rules.specs.Lending.{LentCall, lend, give_back, answer_lent, world_lent, begins_lent, stops_lent, proper}
use Rattle.rules.specs.Frames.{refused_by, buffer_of, buffer_after}
use Rattle.rules.specs.Demand2.{Demand2}
use Rattle.rules.specs.Demand3.{Entry, noted, Run, run_from, book_of, Demand3}
use Rattle.rules.specs.Running.{NamesStand}
use Rattle.rules.proofs.Theorems as theorems
use Rattle.chains.specs.Links.{Form, Link, command_link, engine_link, step_link, collect_link, reset_link}
use Rattle.chains.specs.Links.{Promised, command_promised, engine_promised, step_promised, collect_promised, reset_promised}
use Rattle.chains.specs.Links.{Made, Linked, after, is_initialisation, ends_chain, Chain, none, next, end_of, journal_of}
use Rattle.chains.specs.Claims.{Promises, Kept, Fixed, Refusals, Begins, Edges, States, Fronts, Serial, Zeroed, Holding}

-- ---- one call

pub link_promises : Promises Link
link_promises u v c a (command_link hca row store room bytes mail r storeLeft room_left e) = command_promised e
link_promises u v c a (engine_link hca row store room number index psn state r storeLeft room_left e) = engine_promised e
link_promises u v c a (step_link hca row store room k r storeLeft room_left e) = step_promised e
link_promises u v c a (collect_link hca row store room k out r outLeft e) = collect_promised e
link_promises u v c a (reset_link hca row store room r e) = reset_promised e

pub kept : Kept
kept u (command bytes mail) = command_promised refl
kept u (engine_request number index psn state) = engine_promised refl
kept u (step k) = step_promised refl
kept u (collection k out) = collect_promised refl
kept u resetting = reset_promised refl

-- a promise is an equation between results, so it fixes the answer and the world left
promise_fixed : (u v : World) (c : Call) (a : Answer) → Promised u c a v → (a ≡ answer_to u c) × (v ≡ world_after u c)
promise_fixed u v c a (command_promised e) =
    (ap (λ (x : admission.Submitted). submitted x.answer) e, ap (λ (x : admission.Submitted). x.world) e)
promise_fixed u v c a (engine_promised e) =
    (ap (λ (x : admission.Submitted). submitted x.answer) e, ap (λ (x : admission.Submitted). x.world) e)
promise_fixed u v c a (step_promised e) =
    (ap (λ (x : steps.Stepped). stepped x.answer) e, ap (λ (x : steps.Stepped). x.world) e)
promise_fixed u v c a (collect_promised e) =
    (ap (λ (x : collections.Collected). collected x.answer x.out) e, ap (λ (x : collections.Collected). x.world) e)
promise_fixed u v c a (reset_promised e) =
    (ap (λ (x : resets.Reset). reset_done x.answer) e, ap (λ (x : resets.Reset). x.world) e)

-- where a chain begins and what ends it, by the rules' answer, is where the rules say so
begins_is : (u : World) (c : Call) → is_initialisation u.hca.logs c (answer_to u c) ≡ begins u c
unfolding rules.initialises
begins_is u (command bytes mail) = refl
begins_is u (engine_request number index psn state) = refl
begins_is u (step k) = refl
begins_is u (collection k out) = refl
begins_is u resetting = refl

ends_is : (u : World) (c : Call) → ends_chain u.hca.logs c (answer_to u c) ≡ stops u c
unfolding rules.initialises
ends_is u (command bytes mail) = refl
ends_is u (engine_request number index psn state) = refl
ends_is u (step k) = refl
ends_is u (collection k out) = refl
ends_is u resetting = refl

-- what does not end a chain is no initialisation
goes_on : (g : Logs) (c : Call) (a : Answer) → ends_chain g c a ≡ false → is_initialisation g c a ≡ false
goes_on g (command bytes mail) a e = e
goes_on g (engine_request number index psn state) a e = refl
goes_on g (step k) a e = refl
goes_on g (collection k out) a e = refl
goes_on g resetting a e = refl

-- ---- chains

-- a call that was made, as one of a list of calls
abbrev lent_of : Made → LentCall
lent_of m = record { lent = m.lent; call = m.call }

module _ (F : Form) (promises : Promises F) where
  pub fixed : Fixed F
  fixed u v c a l = promise_fixed u v c a (promises u v c a l)

  -- the world after a call that was made, and its answer, are the rules'
  module _ (w : World) (m : Made) (l : Linked F w m) where
    answer_is : m.answer ≡ answer_lent w (lent_of m)
    answer_is = (fixed (lend m.lent w) m.left m.call m.answer l).0

    world_is : after w m ≡ world_lent w (lent_of m)
    world_is = ap (give_back m.lent w) (fixed (lend m.lent w) m.left m.call m.answer l).1

    begins_same : is_initialisation w.hca.logs m.call m.answer ≡ begins_lent w (lent_of m)
    begins_same = ap (is_initialisation w.hca.logs m.call) answer_is ∙ begins_is (lend m.lent w) m.call

    stops_same : ends_chain w.hca.logs m.call m.answer ≡ stops_lent w (lent_of m)
    stops_same = ap (ends_chain w.hca.logs m.call) answer_is ∙ ends_is (lend m.lent w) m.call

  -- a chain is the run of its calls
  runs : (w : World) (J : List Entry) (calls : List Made) → Chain F w calls
      → run_from w J (map lent_of calls) ≡ record { world = end_of w calls; journal = journal_of w J calls }
  runs w J [] none = refl
  runs w J (m ∷ ms) (next l on rest) =
      ap (λ (b : Bool). pick b (record { world = w; journal = J }) onwards) (sym (stops_same w m l) ∙ on)
      ∙ ap₂ (λ (z : World) (a : Answer). run_from z (noted (note_of w.hca.logs m.call a) J) (map lent_of ms))
      (sym (world_is w m l)) (sym (answer_is w m l))
      ∙ runs (after w m) (noted (note_of w.hca.logs m.call m.answer) J) ms rest
    where
      onwards : Run
      onwards = run_from (world_lent w (lent_of m)) (noted (note_of w.hca.logs m.call (answer_lent w (lent_of m))) J) (map lent_of ms)

  -- ---- the claims

  pub refusals : Refusals F
  refusals u v c a l link r =
      let f : (a ≡ answer_to u c) × (v ≡ world_after u c) = fixed u v c a link in
      let left : (world_after u c ≡ u) × (buffer_after (answer_to u c) l ≡ buffer_of c l) =
      theorems.refusals u c l (ap refused_by (sym f.0) ∙ r) in
      (f.1 ∙ left.0, ap (λ (x : Answer). buffer_after x l) f.0 ∙ left.1)

  pub fronts : Fronts F
  fronts w [] B m (next l on rest) = (none, l, goes_on w.hca.logs m.call m.answer on)
  fronts w (n ∷ A) B m (next l on rest) =
      let r : _ = fronts (after w n) A B m rest in
      (next l on r.0, r.1, r.2)

  module _ (before : World) (first : Made) (i : Begins F before first) where
    begun : begins_lent before (lent_of first) ≡ true
    begun = sym (begins_same before first i.linked) ∙ i.initialisation

    start_is : world_lent before (lent_of first) ≡ after before first
    start_is = sym (world_is before first i.linked)

    -- the run that the chain is, from its own start
    run_is : (calls : List Made) → Chain F (after before first) calls
        → run_from (world_lent before (lent_of first)) [] (map lent_of calls)
        ≡ record { world = end_of (after before first) calls; journal = journal_of (after before first) [] calls }
    run_is calls chain = ap (λ (s : World). run_from s [] (map lent_of calls)) start_is ∙ runs (after before first) [] calls chain

  pub zeroed : Zeroed F
  zeroed before first i =
      subst (λ (s : World). (X : Record) → is_record s.hca.logs X ≡ true → (book_of (proper s)).bytes X ≡ replicate (record_size X) 0)
      (start_is before first i) (theorems.zeroed before (lent_of first) (begun before first i))

  pub serial : Serial F
  serial before first i calls chain =
      subst (λ (r : Run). Demand3 (book_of (proper (after before first))) (proper r.world) r.journal)
      (run_is before first i calls chain)
      (subst (λ (s : World). Demand3 (book_of (proper s)) (proper end.world) end.journal) (start_is before first i)
      (theorems.demand3 before (lent_of first) (begun before first i) (map lent_of calls)))
    where
      end : Run
      end = run_from (world_lent before (lent_of first)) [] (map lent_of calls)

  pub holding : Holding F
  holding before first i calls chain =
      subst (λ (r : Run). NamesStand (book_of (proper (after before first))) (proper r.world) r.journal)
      (run_is before first i calls chain)
      (subst (λ (s : World). NamesStand (book_of (proper s)) (proper end.world) end.journal) (start_is before first i)
      (theorems.running before (lent_of first) (begun before first i) (map lent_of calls)))
    where
      end : Run
      end = run_from (world_lent before (lent_of first)) [] (map lent_of calls)

  pub states : States F
  states before first i calls chain last l b =
      subst (Edges end last.call) (sym (world_is end last l))
      (subst (λ (r : Run). Demand2 r.world (lent_of last)) e
      (theorems.demand2 before (lent_of first) (begun before first i) (map lent_of calls) (lent_of last)
      (subst (λ (r : Run). begins_lent r.world (lent_of last) ≡ false) (sym e) (sym (begins_same end last l) ∙ b))))
    where
      end : World
      end = end_of (after before first) calls

      e : run_from (world_lent before (lent_of first)) [] (map lent_of calls)
          ≡ record { world = end; journal = journal_of (after before first) [] calls }
      e = run_is before first i calls chain
