-- DEMAND 2 is proved. A request is judged when it is accepted; from then until its first burst its record is held, so what the record
-- permitted then it permits still (`Judged`).
use Rattle.std.specs.Prelude.{◌≡◌, Bool, true, false, List, [], ◌∷◌, ◌++◌, ◌⊎◌, ℕ, zero, suc, ◌+◌, ◌*◌, ◌/◌, ◌≤◌, ◌<◌, ltb, length, get_or, set, take, drop, Result, Ok}
use Rattle.std.proofs.Math.Path.{refl}
use Rattle.std.proofs.Common.{sym, ◌∙◌, ap, ap₂, subst, true≢false, inl, inr, arith, take-append-drop, get_or-set_same, get_or-set_other}
use Rattle.std.proofs.lemmas.Bool.{false≢true}
use Rattle.std.proofs.Math.Decide.{dec_lt, ℕ_discrete}
use Rattle.std.proofs.Math.Seq.{set_out}
use Rattle.words.specs.Choice.{pick}
use Rattle.words.proofs.Choice.{by_pick}
use Rattle.context.specs.Layout.{is_record, record_size}
use Rattle.context.proofs.Records.{record?}
use Rattle.context.specs.declared.Logs.{Logs}
use Rattle.context.specs.declared.QpNumber.{QpNumber}
use Rattle.context.specs.declared.Record.{Record}
use Rattle.context.specs.declared.Record.TheVariants as rec
use Rattle.edges.specs.Edges.{to_of}
use Rattle.requests.specs.declared.Command.TheVariants as command
use Rattle.requests.specs.declared.Owned.TheVariants as owned
use Rattle.requests.specs.declared.EngineRequest.TheVariants as engine
use Rattle.requests.specs.declared.Request.{Request}
use Rattle.requests.specs.declared.Request.TheVariants as request
use Rattle.request_table.specs.Records.{record_of, records_of, writes_of}
use Rattle.request_table.specs.Listed.{In}
use Rattle.request_table.proofs.Laws.{own_in}
use Rattle.burst_table.specs.Bursts.{bursts_of, total_of}
use Rattle.burst_table.specs.Sizes.{burst_size, slot_count}
use Rattle.burst_table.proofs.Touched.{fit_at}
use Rattle.burst_table.proofs.Laws.{bursts_fit, bursts_later, total_bursts}
use Rattle.checks.specs.Fields.{state_of, service_of}
use Rattle.checks.specs.Permission.{permission_of}
use Rattle.checks.proofs.PermissionLaws.{permission_holds}
use Rattle.byte_rule.specs.Bytes.{byte_of}
use Rattle.bursts.specs.Bursts.{burst}
use Rattle.bursts.proofs.Bursts.{burst_out}
use Rattle.bursts.proofs.Effects.{state_first}
use Rattle.bursts.specs.Room.{front_of}
use Rattle.records.specs.Memory.{Memory, memory, record_in, permission_in}
use Rattle.slots.specs.Slots.{slot, advanced, advanced_status}
use Rattle.slots.specs.declared.Slot.{Slot}
use Rattle.slots.specs.declared.Status.{Status}
use Rattle.slots.specs.declared.Status.TheVariants.{Free, Running}
use Rattle.possible.proofs.Laws.{writer_alone}
use Rattle.rules.specs.World.{World, status_at, bad_state}
use Rattle.rules.specs.Admission.{world_taken, world_closed, applied}
use Rattle.rules.specs.Commands.{decide_command, submit_command}
use Rattle.rules.specs.Engines.{decide_engine, submit_engine}
use Rattle.rules.specs.Steps.{Stepped, slot_moved, world_moved, step_of}
use Rattle.rules.specs.Collections.{Collected, world_freed, collect_of}
use Rattle.rules.specs.Resets.{Reset, reset_of}
use Rattle.rules.specs.Calls.{Call, command as commanding, engine_request, step, collection, resetting, world_after, Asked}
use Rattle.rules.specs.Calls.{command_asked, engine_asked, note_of, is_done, is_init, initialises, begins, reset_ends, stops}
use Rattle.rules.specs.Lending.{LentCall, lend, world_lent, answer_lent, begins_lent, stops_lent, proper}
use Rattle.rules.specs.Demand3.{Entry, noted, Run, run_from}
use Rattle.rules.specs.Frames.{Change, kept, burst_moved}
use Rattle.rules.specs.Demand2.{Along, StateMove, stays, moves, Statement}
use Rattle.rules.proofs.Laws.Lent.{running}
use Rattle.rules.specs.Laws.Decided.{Decided, plain, denied, takes, closes, rests, opens, misnamed}
use Rattle.rules.proofs.Laws.Decided.{command_decided, engine_decided}
use Rattle.rules.specs.Laws.Outcomes.{Stepping}
use Rattle.rules.proofs.Laws.Outcomes.{step_is, collect_is, reset_is}
use Rattle.rules.proofs.Proofs.Moved.{step_sized, step_slot, step_runs, other_stays}
use Rattle.rules.proofs.Proofs.Events.{no_init, number_no_init}
use Rattle.rules.proofs.Proofs.Frame.{records, counts}
use Rattle.rules.proofs.Proofs.Lists.{Roomy, LentAs, leaves, only_nop, goes, lent_call, roomy_after, stops_begins, begins_stops}
use Rattle.rules.proofs.Proofs.Serial.{start_roomy, start_free}
use Rattle.rules.specs.declared.Decision.{Decision}
use Rattle.rules.specs.declared.Refusal.{Refusal}
use Rattle.engines.specs.Engines.{read_number}

-- every running writer that has moved no burst is permitted by its record as it stands
Judged : World → Type 0
Judged w =
    (k : ℕ) (q : Request) → status_at k w.row ≡ Running 0 q → writes_of q ≡ true → permission_in w.hca.logs w.memory q ≡ Ok tt

-- a slot of a row with one slot set: that slot, or as it was
slot_cases : (row : List Slot) (k j : ℕ) (s : Slot)
    → (status_at j (set row k s) ≡ s.status) ⊎ ((status_at j (set row k s) ≡ status_at j row) × ((j ≡ k → ⊥) ⊎ (length row ≤ k)))
unfolding status_at
slot_cases row k j s = go (ℕ_discrete j k) (dec_lt k (length row))
  where
    go : Dec (j ≡ k) → Dec (k < length row)
        → ((get_or (set row k s) j (slot Free)).status ≡ s.status)
        ⊎ (((get_or (set row k s) j (slot Free)).status ≡ (get_or row j (slot Free)).status) × ((j ≡ k → ⊥) ⊎ (length row ≤ k)))
    go (yes e) (yes h) =
        inl (ap (λ (i : ℕ). (get_or (set row k s) i (slot Free)).status) e ∙ ap (λ (x : Slot). x.status)
        (get_or-set_same row k s (slot Free) h))
    go (yes e) (no h) = inr (ap (λ (l : List Slot). (get_or l j (slot Free)).status) (set_out row k s (omega arith)), inr (omega arith))
    go (no n) h = inr (ap (λ (x : Slot). x.status) (get_or-set_other row k j s (slot Free) n), inl n)

-- the same record in the same memory
judged_memory : (w u : World) → u.hca.logs ≡ w.hca.logs → u.memory ≡ w.memory → (q : Request)
    → permission_in w.hca.logs w.memory q ≡ Ok tt → permission_in u.hca.logs u.memory q ≡ Ok tt
judged_memory w u e f q p =
    ap (λ (g : Logs). permission_in g u.memory q) e ∙ ap (λ (m : Memory). permission_in w.hca.logs m q) f ∙ p

-- a slot that is freed, or taken by a request that was judged
judged_free : (w u : World) (k : ℕ) → Judged w → u.hca.logs ≡ w.hca.logs → u.memory ≡ w.memory → u.row ≡ set w.row k (slot Free)
    → Judged u
unfolding Judged
judged_free w u k i e f r j q s wr = go (slot_cases w.row k j (slot Free))
  where
    now : status_at j (set w.row k (slot Free)) ≡ Running 0 q
    now = ap (status_at j) (sym r) ∙ s

    go : (status_at j (set w.row k (slot Free)) ≡ Free)
        ⊎ ((status_at j (set w.row k (slot Free)) ≡ status_at j w.row) × ((j ≡ k → ⊥) ⊎ (length w.row ≤ k)))
        → permission_in u.hca.logs u.memory q ≡ Ok tt
    go (inl x) = let c : Free ≡ Running 0 q = sym x ∙ now in let z : ◌≡◌ {A = ℕ} 0 1 = cc in absurd (omega arith)
    go (inr x) = judged_memory w u e f q (i j q (sym x.0 ∙ now) wr)

judged_taken : (w : World) (q : Request) (mail : List ℕ) (k : ℕ) → Judged w → permission_in w.hca.logs w.memory q ≡ Ok tt
    → Judged (world_taken w q mail k)
unfolding Judged world_taken
judged_taken w q mail k i p j r s wr = go (slot_cases w.row k j (slot (Running 0 q)))
  where
    go : (status_at j (set w.row k (slot (Running 0 q))) ≡ Running 0 q)
        ⊎ ((status_at j (set w.row k (slot (Running 0 q))) ≡ status_at j w.row) × ((j ≡ k → ⊥) ⊎ (length w.row ≤ k)))
        → permission_in w.hca.logs w.memory r ≡ Ok tt
    go (inl x) =
        let c : Running 0 q ≡ Running 0 r = sym x ∙ s in
        let e : q ≡ r = cc in
        subst (λ (y : Request). permission_in w.hca.logs w.memory y ≡ Ok tt) e p
    go (inr x) = i j r (sym x.0 ∙ s) wr

-- ---- every call keeps it

judged_same : (w u : World) → u.hca.logs ≡ w.hca.logs → u.memory ≡ w.memory → u.row ≡ w.row → Judged w → Judged u
unfolding Judged
judged_same w u e f r i k q s wr = judged_memory w u e f q (i k q (ap (status_at k) (sym r) ∙ s) wr)

applied_judged : (w : World) (mail : List ℕ) (a : Asked) (d : Result Decision Refusal) → Judged w → Decided w mail a d
    → pick (is_init a) (is_done (applied w mail d).answer) false ≡ false → Judged (applied w mail d).world
unfolding world_closed
applied_judged w mail a d i (plain c e) n = i
applied_judged w mail a d i (denied g e) n = i
applied_judged w mail a d i (misnamed g) n = i
applied_judged w mail a d i (takes {q = q} {k = k} g e f) n = judged_taken w q mail k i e
applied_judged w mail a d i (closes o m) n = judged_same w (world_closed w) refl refl refl i
applied_judged w mail a d i rests n = i
applied_judged w mail a d i (opens p o e) n = absurd (true≢false n)

collect_judged : (w : World) (k : ℕ) (out : List ℕ) → Judged w → Judged (collect_of w k out).world
unfolding world_freed
collect_judged w k out i =
    collect_is w k out (λ (c : Collected). Judged c.world) (λ _. i) (λ _ _. judged_free w (world_freed w k) k i refl refl refl)

advanced_is : (row : List Slot) (k : ℕ) (s : Status) → status_at k row ≡ s → (advanced (get_or row k (slot Free))).status ≡ advanced_status s
unfolding status_at
advanced_is row k s e = ap advanced_status e

-- a burst of another request: what a request that has moved none is judged by stays
module _ (w : World) (k : ℕ) (q : Request) (m : ℕ) (s : Stepping w k q m) where
  -- no burst leaves a slot running with none moved
  never_first : (r : Request) → advanced_status (Running m q) ≡ Running 0 r → ⊥
  never_first r = by_pick (λ (x : Status). x ≡ Running 0 r → ⊥) (ltb (m + 1) (total_of q)) _ _
      (λ _ e. let f : m + 1 ≡ 0 = cc in omega arith)
      (λ _ e. let z : ◌≡◌ {A = ℕ} 0 1 = cc in omega arith)

  record_kept : (j : ℕ) (r : Request) → ¬ (j ≡ k) → status_at j w.row ≡ Running 0 r
      → record_in w.hca.logs (world_moved w k q m).memory (record_of r) ≡ record_in w.hca.logs w.memory (record_of r)
  unfolding bad_state status_at
  record_kept j r d e =
      other_stays w k q m s (record_of r) (running w s.possible s.opened j r 0 e).valid
      (λ wr y. writer_alone w.hca w.row s.opened s.possible k j (λ h. d (sym h)) q m r 0 s.now e (record_of r)
      (subst (λ (X : Record). In X (records_of q)) y (own_in q)) (own_in r) wr)

  burst_judged : Judged w → Judged (world_moved w k q m)
  unfolding Judged world_moved slot_moved permission_in
  burst_judged i j r e wr = go (slot_cases w.row k j (advanced (get_or w.row k (slot Free))))
    where
      next : (advanced (get_or w.row k (slot Free))).status ≡ advanced_status (Running m q)
      next = advanced_is w.row k (Running m q) s.now

      stays_judged : status_at j w.row ≡ Running 0 r → ¬ (j ≡ k)
          → permission_of r (record_in w.hca.logs (world_moved w k q m).memory (record_of r)) ≡ Ok tt
      stays_judged f d = ap (permission_of r) (record_kept j r d f) ∙ i j r f wr

      go : (status_at j (set w.row k (advanced (get_or w.row k (slot Free)))) ≡ (advanced (get_or w.row k (slot Free))).status)
          ⊎ ((status_at j (set w.row k (advanced (get_or w.row k (slot Free)))) ≡ status_at j w.row) ×
          ((j ≡ k → ⊥) ⊎ (length w.row ≤ k)))
          → permission_of r (record_in w.hca.logs (world_moved w k q m).memory (record_of r)) ≡ Ok tt
      go (inl x) = absurd (never_first r (sym next ∙ sym x ∙ e))
      go (inr x) = apart x.1
        where
          apart : (j ≡ k → ⊥) ⊎ (length w.row ≤ k)
              → permission_of r (record_in w.hca.logs (world_moved w k q m).memory (record_of r)) ≡ Ok tt
          apart (inl d) = stays_judged (sym x.0 ∙ e) d
          apart (inr h) = absurd (omega (arith, step_slot w k q m s, (step_sized w k q m s).rowed))

call_judged : (w : World) (c : Call) → stops w c ≡ false → Judged w → Judged (world_after w c)
unfolding initialises submit_command submit_engine
call_judged w (commanding bytes mail) e i =
    applied_judged w mail (command_asked w.hca.logs bytes) (decide_command w bytes mail) i (command_decided w bytes mail) e
call_judged w (engine_request n index psn code) e i =
    applied_judged w [] (engine_asked w.hca.logs n index psn code) (decide_engine w n index psn code) i
    (engine_decided w n index psn code)
    (no_init (engine_asked w.hca.logs n index psn code) (is_done (submit_engine w n index psn code).answer)
    (number_no_init w index psn code (read_number n)))
call_judged w (step k) e i = step_is w k (λ (s : Stepped). Judged s.world) (λ _. i) (λ q m s. burst_judged w k q m s i)
call_judged w (collection k out) e i = collect_judged w k out i
call_judged w resetting e i =
    reset_is w (λ (r : Reset). reset_ends r.answer ≡ false → Judged r.world) (λ _ _. i) (λ _ f. absurd (true≢false f)) e

-- ---- every call of a list, whatever it is lent

lent_judged : (w : World) (c : LentCall) → Roomy w → stops_lent w c ≡ false → Judged (proper w) → Judged (proper (world_lent w c))
lent_judged w c r s i = go (lent_call w c r s)
  where
    go : LentAs w c → Judged (proper (world_lent w c))
    go (leaves e n) = subst (λ (u : World). Judged (proper u)) (sym e) i
    go (only_nop e n) = subst (λ (u : World). Judged (proper u)) (sym e) i
    go (goes a e p) = subst Judged (sym e) (call_judged (proper w) c.call p i)

record Ready (w : World) : Type 0 where
  pub roomy : Roomy w
  pub judged : Judged (proper w)

run_ready : (w : World) (J : List Entry) (cs : List LentCall) → Ready w → Ready (run_from w J cs).world
run_ready w J [] i = i
run_ready w J (c ∷ cs) i =
    by_pick (λ (r : Run). Ready r.world) (stops_lent w c) _ _ (λ _. i)
    (λ e. run_ready (world_lent w c) (noted (note_of w.hca.logs c.call (answer_lent w c)) J) cs
    (record { roomy = roomy_after w c i.roomy (stops_begins w c e); judged = lent_judged w c i.roomy e i.judged }))

-- ---- what a burst makes of the state

-- the first burst sets the state
first_along : (q : Request) (n : QpNumber) (mail before : List ℕ) → burst_size ≤ length before → record_of q ≡ rec.Qp n → writes_of q ≡ true
    → permission_of q before ≡ Ok tt
    → Along q (state_of before) (service_of before) (state_of (burst (byte_of q mail) (get_or (bursts_of q) 0 0) before))
unfolding state_of
first_along (request.Command (command.Sw2Hw (owned.Mpt x))) n mail before l y wr p = let z : ◌≡◌ {A = ℕ} 0 1 = cc in absurd (omega arith)
first_along (request.Command (command.Sw2Hw (owned.Eq x))) n mail before l y wr p = let z : ◌≡◌ {A = ℕ} 0 1 = cc in absurd (omega arith)
first_along (request.Command (command.Sw2Hw (owned.Cq x))) n mail before l y wr p = let z : ◌≡◌ {A = ℕ} 0 1 = cc in absurd (omega arith)
first_along (request.Command (command.Hw2Sw (owned.Mpt x))) n mail before l y wr p = let z : ◌≡◌ {A = ℕ} 0 1 = cc in absurd (omega arith)
first_along (request.Command (command.Hw2Sw (owned.Eq x))) n mail before l y wr p = let z : ◌≡◌ {A = ℕ} 0 1 = cc in absurd (omega arith)
first_along (request.Command (command.Hw2Sw (owned.Cq x))) n mail before l y wr p = let z : ◌≡◌ {A = ℕ} 0 1 = cc in absurd (omega arith)
first_along (request.Command (command.ResizeCq x)) n mail before l y wr p = let z : ◌≡◌ {A = ℕ} 0 1 = cc in absurd (omega arith)
first_along (request.Command (command.QueryQp x)) n mail before l y wr p = absurd (false≢true wr)
first_along (request.Command (command.ModifyQp e x)) n mail before l y wr p = (
  permission_holds (request.Command (command.ModifyQp e x)) before p,
  state_first (request.Command (command.ModifyQp e x)) (to_of e) refl mail before l,
)
first_along (request.Engine (engine.ReadState x)) n mail before l y wr p = absurd (false≢true wr)
first_along (request.Engine (engine.ReadNext x)) n mail before l y wr p = absurd (false≢true wr)
first_along (request.Engine (engine.ReadAll x)) n mail before l y wr p = absurd (false≢true wr)
first_along (request.Engine (engine.ReadJoined x c e)) n mail before l y wr p = absurd (false≢true wr)
first_along (request.Engine (engine.Write f s x psn)) n mail before l y wr p = (
  permission_holds (request.Engine (engine.Write f s x psn)) before p,
  state_first (request.Engine (engine.Write f s x psn)) s refl mail before l,
)

-- a burst of another place leaves the state
later_stays : (q : Request) (mail before : List ℕ) (j : ℕ) → burst_size * j + burst_size ≤ length before → 0 < j
    → state_of (burst (byte_of q mail) j before) ≡ state_of before
unfolding state_of
later_stays q mail before j l p = ap (λ (b : ℕ). b / 16) (burst_out (byte_of q mail) j before l 0 (λ i. omega (arith, i.0)))

-- of any change of a queue pair's record
state_moves : (w : World) (c : Call) (n : QpNumber) (before after : List ℕ) → Judged w
    → before ≡ record_in w.hca.logs w.memory (rec.Qp n) → Change w c (rec.Qp n) before after
    → StateMove w c (rec.Qp n) (state_of before) (service_of before) (state_of after)
unfolding Judged permission_in
state_moves w c n before after i b (kept e) = stays (ap state_of e)
state_moves w c n before after i b (burst_moved k q zero e f h wr y l g) =
    moves k q e f y
    (subst (λ (r : List ℕ). Along q (state_of before) (service_of before) (state_of r)) (sym g)
    (first_along q n (front_of k q w.room) before (omega (arith, l)) y wr
    (ap (permission_of q) (b ∙ ap (record_in w.hca.logs w.memory) (sym y)) ∙ i k q f wr)))
state_moves w c n before after i b (burst_moved k q (suc m) e f h wr y l g) =
    stays (ap state_of g
    ∙ later_stays q (front_of k q w.room) before (get_or (bursts_of q) (suc m) 0)
    (omega (
      arith,
      l,
      ap (λ (X : Record). record_size X) y,
      fit_at (record_size (record_of q)) (bursts_of q) (suc m) (bursts_fit q wr)
          (omega (arith, total_bursts q)),
    ))
    (bursts_later q (suc m) h (omega arith)))

-- ---- of a call of a list

-- a reset that answers 0 leaves the memory
reset_leaves : (w : World) (c : Call) → stops w c ≡ true → begins w c ≡ false → (world_after w c).memory ≡ w.memory
reset_leaves w (commanding bytes mail) e f = absurd (true≢false (sym e ∙ f))
reset_leaves w (engine_request n index psn code) e f = absurd (false≢true e)
reset_leaves w (step k) e f = absurd (false≢true e)
reset_leaves w (collection k out) e f = absurd (false≢true e)
reset_leaves w resetting e f = reset_is w (λ (r : Reset). r.world.memory ≡ w.memory) (λ _. refl) (λ _. refl)

module _ (w : World) (c : LentCall) (r : Ready w) (b : begins_lent w c ≡ false) (n : QpNumber)
    (v : is_record w.hca.logs (rec.Qp n) ≡ true) where
  -- the queue pair's record as it was
  was : List ℕ
  was = record_in w.hca.logs (proper w).memory (rec.Qp n)

  Moves : Memory → Type 0
  Moves m = StateMove (proper w) c.call (rec.Qp n) (state_of was) (service_of was) (state_of (record_in w.hca.logs m (rec.Qp n)))

  unmoved : (m : Memory) → m ≡ (proper w).memory → Moves m
  unfolding Moves was
  unmoved m e = stays (ap (λ (x : Memory). state_of (record_in w.hca.logs x (rec.Qp n))) e)

  -- the memory after a reset that answers 0
  reset_memory : stops_lent w c ≡ true → (proper (world_lent w c)).memory ≡ (proper w).memory
  reset_memory e =
      ap₂ (λ (k : ℕ) (s : List ℕ). memory (take k s)) (counts (lend c.lent w) c.call b).1
      (ap (λ (m : Memory). m.store ++ drop c.lent.store w.memory.store) (reset_leaves (lend c.lent w) c.call e b)
      ∙ take-append-drop c.lent.store w.memory.store)

  moved : stops (proper w) c.call ≡ false → Moves (world_after (proper w) c.call).memory
  unfolding Moves was
  moved p =
      state_moves (proper w) c.call n (record_in w.hca.logs (proper w).memory (rec.Qp n))
      (record_in w.hca.logs (world_after (proper w) c.call).memory (rec.Qp n)) r.judged refl
      (records (proper w) c.call (begins_stops (proper w) c.call p) (rec.Qp n) v)

  lent_moves : Moves (proper (world_lent w c)).memory
  lent_moves = by_stop (stops_lent w c) refl
    where
      by_call : LentAs w c → Moves (proper (world_lent w c)).memory
      by_call (leaves e x) = unmoved _ (ap (λ (u : World). (proper u).memory) e)
      by_call (only_nop e x) = unmoved _ (ap (λ (u : World). (proper u).memory) e)
      by_call (goes a e p) = subst (λ (u : World). Moves u.memory) (sym e) (moved p)

      by_stop : (t : Bool) → stops_lent w c ≡ t → Moves (proper (world_lent w c)).memory
      by_stop true e = unmoved _ (reset_memory e)
      by_stop false e = by_call (lent_call w c r.roomy e)

start_judged : (w : World) → ((k : ℕ) → status_at k w.row ≡ Free) → Judged w
unfolding Judged
start_judged w f k q e wr = let c : Free ≡ Running 0 q = sym (f k) ∙ e in let z : ◌≡◌ {A = ℕ} 0 1 = cc in absurd (omega arith)

-- DEMAND 2
pub demand2 : Statement
unfolding Moves was
demand2 before first i calls last b n v =
    let start : World = world_lent before first in
    let fresh : Ready start = record {
      roomy = start_roomy before first i;
      judged = start_judged (proper start) (start_free before first i);
    } in
    lent_moves (run_from start [] calls).world last (run_ready start [] calls fresh) b n v
