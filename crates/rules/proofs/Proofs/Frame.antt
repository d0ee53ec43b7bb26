-- The frame is proved: of a submission by what is applied (Applied), of a step by its burst (Moved), of the other calls by computation.
use Rattle.std.specs.Prelude.{◌≡◌, Bool, List, [], ℕ, ◌+◌, ◌-◌, ◌/◌, ◌≤◌, ◌<◌, ltb, length, get_or, Result, Ok, Err}
use Rattle.std.proofs.Math.Path.{refl, ap}
use Rattle.std.proofs.Common.{sym, ◌∙◌, ap₂, true≢false, arith, ltb-false, ltb-true, length-set, get_or-set_same}
use Rattle.std.proofs.Math.Bool.{true, false}
use Rattle.std.proofs.lemmas.Bool.{false≢true}
use Rattle.words.specs.Choice.{pick}
use Rattle.words.proofs.Choice.{by_pick}
use Rattle.words.specs.Parts.{splice}
use Rattle.words.proofs.Parts.{length_splice, splice_above}
use Rattle.context.specs.Layout.{is_record, record_size}
use Rattle.context.proofs.Records.{record?}
use Rattle.context.specs.declared.Record.{Record}
use Rattle.requests.specs.declared.Request.{Request}
use Rattle.request_table.specs.Records.{record_of, records_of, writes_of}
use Rattle.burst_table.specs.Bursts.{bursts_of, total_of}
use Rattle.burst_table.specs.Sizes.{slot_count, slot_room}
use Rattle.answers.specs.Answers.{answer_size}
use Rattle.byte_rule.specs.Bytes.{byte_of}
use Rattle.bursts.specs.Bursts.{burst}
use Rattle.bursts.specs.Copies.{copy}
use Rattle.bursts.specs.Room.{room_of, front_of}
use Rattle.records.specs.Memory.{Memory, record_in, joined_in, InBurst, Behind}
use Rattle.records.specs.Laws.{length_record_in, in_burst?}
use Rattle.slots.specs.Slots.{slot, advanced_status, left_of, left_status, freed}
use Rattle.slots.specs.declared.Slot.{Slot}
use Rattle.slots.specs.declared.Status.{Status}
use Rattle.slots.specs.declared.Status.TheVariants.{Free, Running, Finished}
use Rattle.rows.specs.Rows.{any_slot, empty_row}
use Rattle.rows.proofs.Laws.{none_occupied}
use Rattle.rules.specs.World.{World, status_at}
use Rattle.rules.specs.Commands.{decide_command, submit_command}
use Rattle.rules.specs.Engines.{decide_engine, submit_engine}
use Rattle.rules.specs.Steps.{Stepped, slot_moved, world_moved, step_of}
use Rattle.rules.specs.Collections.{Collected, answer_at, world_freed, collect_of}
use Rattle.rules.specs.Resets.{Reset, reset_of}
use Rattle.rules.specs.Names.{Arguments}
use Rattle.rules.specs.Book.{on_record}
use Rattle.rules.specs.Calls.{Note, nothing, accepted, Call, command, engine_request, step, collection, resetting}
use Rattle.rules.specs.Calls.{reset_done, command_asked, engine_asked, collect_note, is_done, is_init, initialises}
use Rattle.rules.specs.Frames.{refused_step, refused_collect, refused_reset, takes_slot, empties, at_once, answer_bytes, Refusals}
use Rattle.rules.specs.Frames.{Steps, Collects, Written, Copied, Change, kept, burst_moved, Records, in_burst, Changes}
use Rattle.rules.specs.Frames.{Elsewhere, BehindKept, SlotTaken, Rooms, Rows, Emptied, Opens, Counts, Sizes, Buffers}
use Rattle.rules.proofs.Laws.Lent.{sized}
use Rattle.rules.proofs.Laws.Decided.{command_decided, engine_decided}
use Rattle.rules.specs.Laws.Outcomes.{Stepping, Collecting}
use Rattle.rules.proofs.Laws.Outcomes.{step_is, collect_is, reset_is}
use Rattle.rules.proofs.Proofs.Moved.{step_fits, step_runs, slot_moved_lem, write_room, write_own, read_memory, read_own_lem}
use Rattle.rules.proofs.Proofs.Moved.{other_stays, outside_stays, behind_stays, room_stays, moved_store, moved_room}
use Rattle.rules.proofs.Proofs.Events.{collect_sized, collect_slot, answer_long, no_init, number_no_init}
use Rattle.rules.proofs.Proofs.Applied.{SizesKept, AppliedKept, not_same, set_other, applied_kept}
use Rattle.rules.specs.declared.Refusal.{Refusal}
use Rattle.rules.specs.declared.Submission.{Submission}
use Rattle.engines.specs.Engines.{read_number}

-- ---- submissions

command_kept : (w : World) (bytes mail : List ℕ)
    → AppliedKept w mail (command_asked w.hca.logs bytes) (submit_command w bytes mail).answer (submit_command w bytes mail).world
unfolding submit_command
command_kept w bytes mail =
    applied_kept w mail (command_asked w.hca.logs bytes) (decide_command w bytes mail) (command_decided w bytes mail)

engine_kept : (w : World) (n index psn code : ℕ)
    → AppliedKept w [] (engine_asked w.hca.logs n index psn code) (submit_engine w n index psn code).answer
    (submit_engine w n index psn code).world
unfolding submit_engine
engine_kept w n index psn code =
    applied_kept w [] (engine_asked w.hca.logs n index psn code) (decide_engine w n index psn code) (engine_decided w n index psn code)

-- an engine request is no initialisation
engine_plain : (w : World) (n index psn code : ℕ) (x : Result Submission Refusal)
    → pick (is_init (engine_asked w.hca.logs n index psn code)) (is_done x) false ≡ false
engine_plain w n index psn code x =
    no_init (engine_asked w.hca.logs n index psn code) (is_done x) (number_no_init w index psn code (read_number n))

-- ---- a refusal

no_refusal : {A : Type 0} → false ≡ true → A
no_refusal e = absurd (false≢true e)

pub refusals : Refusals
refusals w (command bytes mail) l e = ((command_kept w bytes mail).refusal e, refl)
refusals w (engine_request n index psn code) l e = ((engine_kept w n index psn code).refusal e, refl)
refusals w (step k) l e =
    (step_is w k (λ (s : Stepped). refused_step s.answer ≡ true → s.world ≡ w) (λ _ _. refl) (λ _ _ _. no_refusal) e, refl)
refusals w (collection k out) l e =
    collect_is w k out (λ (c : Collected). refused_collect c.answer ≡ true → (c.world ≡ w) × (c.out ≡ out)) (λ _ _. (refl, refl))
    (λ _ _. no_refusal) e
refusals w resetting l e =
    (reset_is w (λ (r : Reset). refused_reset r.answer ≡ true → r.world ≡ w) (λ _ _. refl) (λ _. no_refusal) e, refl)

-- ---- the burst that a step makes

-- the request that runs in a slot is one
same_running : (q r : Request) (m n : ℕ) → Running m q ≡ Running n r → (P : Request → ℕ → Type 0) → P r n → P q m
same_running q r m n e P p = let f : q ≡ r = cc in let g : m ≡ n = cc in rw (f, g) p

-- what a step that is not refused answers and makes, of the request that runs in its slot
step_makes : (w : World) (k : ℕ) (q : Request) (m : ℕ) → status_at k w.row ≡ Running m q → (P : Result ℕ Refusal → World → Type 0)
    → ((s : Stepping w k q m) → P (Ok (left_of (slot_moved w k))) (world_moved w k q m))
    → refused_step (step_of w k).answer ≡ false → P (step_of w k).answer (step_of w k).world
step_makes w k q m now P moves =
    step_is w k (λ (s : Stepped). refused_step s.answer ≡ false → P s.answer s.world) (λ _ f. absurd (true≢false f))
    (λ r n s _. same_running r q n m (sym s.now ∙ now)
    (λ (x : Request) (y : ℕ). Stepping w k x y → P (Ok (left_of (slot_moved w k))) (world_moved w k x y)) (λ t. moves t) s)

-- the bursts left of a request that has moved one burst more
left_after : (q : Request) (m : ℕ) → left_status (pick (ltb (m + 1) (total_of q)) (Running (m + 1) q) (Finished (total_of q) q))
    ≡ total_of q - (m + 1)
left_after q m =
    by_pick (λ (s : Status). left_status s ≡ total_of q - (m + 1)) (ltb (m + 1) (total_of q)) _ _ (λ _. refl)
    (λ e. omega (arith, ltb-false (m + 1) (total_of q) e))

left_moved : (w : World) (k : ℕ) (q : Request) (m : ℕ) → status_at k w.row ≡ Running m q → left_of (slot_moved w k) ≡ total_of q - (m + 1)
unfolding slot_moved status_at
left_moved w k q m now = ap (λ (s : Status). left_status (advanced_status s)) now ∙ left_after q m

pub steps : Steps
steps w k q m now e =
    step_makes w k q m now
    (λ (a : Result ℕ Refusal) (u : World). (a ≡ Ok (total_of q - (m + 1)))
    × (status_at k u.row ≡ pick (ltb (m + 1) (total_of q)) (Running (m + 1) q) (Finished (total_of q) q)))
    (λ s. (ap Ok (left_moved w k q m now), slot_moved_lem w k q m s)) e

pub written : Written
written w k q m now e wr =
    step_makes w k q m now
    (λ (a : Result ℕ Refusal) (u : World). (record_in w.hca.logs u.memory (record_of q)
    ≡ burst (byte_of q (front_of k q w.room)) (get_or (bursts_of q) m 0) (record_in w.hca.logs w.memory (record_of q)))
    × (u.room ≡ w.room))
    (λ s. (write_own w k q m s wr, write_room w k q m s wr)) e

pub copied : Copied
copied w k q m now e rd =
    step_makes w k q m now
    (λ (a : Result ℕ Refusal) (u : World). (room_of k u.room
    ≡ copy (get_or (bursts_of q) m 0) (joined_in w.hca.logs w.memory (records_of q)) (room_of k w.room))
    × (u.memory ≡ w.memory))
    (λ s. (read_own_lem w k q m s rd, read_memory w k q m s rd)) e

-- ---- a collection

pub collects : Collects
unfolding world_freed status_at
collects w k out q m now =
    collect_is w k out
    (λ (c : Collected). refused_collect c.answer ≡ false
    → (c.answer ≡ Ok (answer_size q)) × (status_at k c.world.row ≡ Free) × (c.out ≡ splice 0 (answer_at w k q) out))
    (λ _ f. absurd (true≢false f))
    (λ r c _. let f : r ≡ q = same r c in (
      ap (λ (x : Request). Ok (answer_size x)) f,
      ap (λ (s : Slot). s.status)
          (get_or-set_same w.row k (slot Free) (slot Free) (omega (arith, (collect_sized w k out r c).rowed, collect_slot w k out r c))),
      ap (λ (x : Request). splice 0 (answer_at w k x) out) f,
    ))
  where
    same : (r : Request) → Collecting w k out r → r ≡ q
    same r c = let e : Finished c.moves r ≡ Finished m q = sym c.now ∙ now in cc

pub buffers : Buffers
buffers w k out =
    collect_is w k out
    (λ (c : Collected). (length c.out ≡ length out) × ((i : ℕ) → answer_bytes c.answer ≤ i → get_or c.out i 0 ≡ get_or out i 0))
    (λ _. (refl, λ _ _. refl))
    (λ q c.
    let long : length (answer_at w k q) ≡ answer_size q = answer_long w k out q c in
    let fits : 0 + length (answer_at w k q) ≤ length out = omega (arith, long, ltb-false (length out) (answer_size q) c.enough) in
    (length_splice 0 (answer_at w k q) out fits, λ i h. splice_above 0 (answer_at w k q) out fits i (omega (arith, long))))

-- ---- the records

-- a step changes the record that its request writes, by one burst, and no other
module _ (w : World) (k : ℕ) (X : Record) (valid : is_record w.hca.logs X ≡ true) where
  Changed : World → Type 0
  Changed u = Change w (step k) X (record_in w.hca.logs w.memory X) (record_in w.hca.logs u.memory X)

  burst_changed : (q : Request) (m : ℕ) → Stepping w k q m → Changed (world_moved w k q m)
  unfolding Changed
  burst_changed q m s = here (record? (record_of q) X) (writes_of q) refl
    where
      here : Dec (record_of q ≡ X) → (t : Bool) → writes_of q ≡ t → Changed (world_moved w k q m)
      here (no n) t f = kept (other_stays w k q m s X valid (λ _. n))
      here (yes y) false f = kept (other_stays w k q m s X valid (λ wr. absurd (true≢false (sym wr ∙ f))))
      here (yes y) true f =
          burst_moved k q m refl s.now (step_runs w k q m s).more f y
          (length_record_in w.hca.logs w.memory (step_fits w k q m s) X valid)
          (ap (record_in w.hca.logs (world_moved w k q m).memory) (sym y) ∙ write_own w k q m s f
          ∙ ap (λ (Y : Record). burst (byte_of q (front_of k q w.room)) (get_or (bursts_of q) m 0) (record_in w.hca.logs w.memory Y)) y)

  step_changed : Changed (step_of w k).world
  unfolding Changed
  step_changed = step_is w k (λ (s : Stepped). Changed s.world) (λ _. kept refl) burst_changed

-- calls that leave the memory
collect_memory : (w : World) (k : ℕ) (out : List ℕ) → (collect_of w k out).world.memory ≡ w.memory
unfolding world_freed
collect_memory w k out = collect_is w k out (λ (c : Collected). c.world.memory ≡ w.memory) (λ _. refl) (λ _ _. refl)

reset_memory : (w : World) → (reset_of w).world.memory ≡ w.memory
reset_memory w = reset_is w (λ (r : Reset). r.world.memory ≡ w.memory) (λ _. refl) (λ _. refl)

same_record_lem : (w : World) (u : Memory) (c : Call) (X : Record) → u ≡ w.memory
    → Change w c X (record_in w.hca.logs w.memory X) (record_in w.hca.logs u X)
same_record_lem w u c X e = kept (ap (λ (x : Memory). record_in w.hca.logs x X) e)

pub records : Records
unfolding Changed initialises
records w (command bytes mail) i X v = same_record_lem w _ _ X ((command_kept w bytes mail).stored i)
records w (engine_request n index psn code) i X v =
    same_record_lem w _ _ X ((engine_kept w n index psn code).stored (engine_plain w n index psn code (submit_engine w n index psn code).answer))
records w (step k) i X v = step_changed w k X v
records w (collection k out) i X v = same_record_lem w _ _ X (collect_memory w k out)
records w resetting i X v = same_record_lem w _ _ X (reset_memory w)

-- ---- the rest of the store

same_byte : (w : World) (u : Memory) (i : ℕ) → u ≡ w.memory → get_or u.store i 0 ≡ get_or w.memory.store i 0
same_byte w u i e = ap (λ (x : Memory). get_or x.store i 0) e

pub elsewhere : Elsewhere
unfolding initialises
elsewhere w (command bytes mail) e i n = same_byte w _ i ((command_kept w bytes mail).stored e)
elsewhere w (engine_request m index psn code) e i n =
    same_byte w _ i ((engine_kept w m index psn code).stored (engine_plain w m index psn code (submit_engine w m index psn code).answer))
elsewhere w (step k) e i n =
    step_is w k (λ (s : Stepped). get_or s.world.memory.store i 0 ≡ get_or w.memory.store i 0) (λ _. refl)
    (λ q m s. outside_stays w k q m s i (λ wr y. n (in_burst k q m s.now wr y)))
elsewhere w (collection k out) e i n = same_byte w _ i (collect_memory w k out)
elsewhere w resetting e i n = same_byte w _ i (reset_memory w)

pub behind : BehindKept
unfolding world_moved
behind w (command bytes mail) i h = (command_kept w bytes mail).behind i h
behind w (engine_request n index psn code) i h = (engine_kept w n index psn code).behind i h
behind w (step k) i h =
    step_is w k (λ (s : Stepped). Behind s.world.hca.logs i → get_or s.world.memory.store i 0 ≡ get_or w.memory.store i 0)
    (λ _ _. refl) (λ q m s g. behind_stays w k q m s i g) h
behind w (collection k out) i h = same_byte w _ i (collect_memory w k out)
behind w resetting i h = same_byte w _ i (reset_memory w)

-- ---- the room and the row

pub rooms : Rooms
unfolding world_freed
rooms w (command bytes mail) i e f = (command_kept w bytes mail).roomed i e
rooms w (engine_request n index psn code) i e f = (engine_kept w n index psn code).roomed i e
rooms w (step k) i e f =
    step_is w k (λ (s : Stepped). get_or s.world.room i 0 ≡ get_or w.room i 0) (λ _. refl)
    (λ q m s. room_stays w k q m s i (not_same k (i / slot_room) f))
rooms w (collection k out) i e f =
    collect_is w k out (λ (c : Collected). get_or c.world.room i 0 ≡ get_or w.room i 0) (λ _. refl) (λ _ _. refl)
rooms w resetting i e f = reset_is w (λ (r : Reset). get_or r.world.room i 0 ≡ get_or w.room i 0) (λ _. refl) (λ _. refl)

pub rows : Rows
unfolding world_moved world_freed
rows w (command bytes mail) j e f g h = (command_kept w bytes mail).rowed j f
rows w (engine_request n index psn code) j e f g h = (engine_kept w n index psn code).rowed j f
rows w (step k) j e f g h =
    step_is w k (λ (s : Stepped). status_at j s.world.row ≡ status_at j w.row) (λ _. refl)
    (λ q m s. set_other w.row k j (slot_moved w k) g)
rows w (collection k out) j e f g h =
    collect_is w k out (λ (c : Collected). status_at j c.world.row ≡ status_at j w.row) (λ _. refl)
    (λ q _. set_other w.row k j (freed (get_or w.row k (slot Free))) h)
rows w resetting j e f g h =
    reset_is w (λ (r : Reset). empties (reset_done r.answer) ≡ false → status_at j r.world.row ≡ status_at j w.row) (λ _ _. refl)
    (λ _ d. absurd (true≢false d)) e

pub emptied : Emptied
unfolding any_slot status_at
emptied w (command bytes mail) e = absurd (false≢true e)
emptied w (engine_request n index psn code) e = absurd (false≢true e)
emptied w (step k) e = absurd (false≢true e)
emptied w (collection k out) e = absurd (false≢true e)
emptied w resetting e =
    reset_is w
    (λ (r : Reset). empties (reset_done r.answer) ≡ true
    → ((j : ℕ) → status_at j r.world.row ≡ Free) × (r.world.hca.«open» ≡ false))
    (λ _ f. absurd (false≢true f)) (λ _ _. (λ j. ap (λ (s : Slot). s.status) (none_occupied empty_row refl j), refl)) e

-- ---- a request that is accepted

not_collected : (r : Arguments) (front : List ℕ) (k j : ℕ) (out : List ℕ) (a : Result ℕ Refusal)
    → collect_note j out a ≡ accepted (on_record r front) k → ⊥
not_collected r front k j out (Ok n) e = let z : ◌≡◌ {A = ℕ} 0 1 = cc in omega arith
not_collected r front k j out (Err c) e = let z : ◌≡◌ {A = ℕ} 0 1 = cc in omega arith

not_nothing : (r : Arguments) (front : List ℕ) (k : ℕ) → nothing ≡ accepted (on_record r front) k → ⊥
not_nothing r front k e = let z : ◌≡◌ {A = ℕ} 0 1 = cc in omega arith

pub slot_taken : SlotTaken
slot_taken w (command bytes mail) q front k e = (command_kept w bytes mail).taken q front k e
slot_taken w (engine_request n index psn code) q front k e = (engine_kept w n index psn code).taken q front k e
slot_taken w (step j) q front k e = absurd (not_nothing q front k e)
slot_taken w (collection j out) q front k e = absurd (not_collected q front k j (collect_of w j out).out (collect_of w j out).answer e)
slot_taken w resetting q front k e = absurd (not_nothing q front k e)

-- ---- the state, and the lengths

pub opens : Opens
unfolding world_moved world_freed
opens w (command bytes mail) e = (command_kept w bytes mail).opened e
opens w (engine_request n index psn code) e = (engine_kept w n index psn code).opened e
opens w (step k) e = step_is w k (λ (s : Stepped). s.world.hca ≡ w.hca) (λ _. refl) (λ _ _ _. refl)
opens w (collection k out) e = collect_is w k out (λ (c : Collected). c.world.hca ≡ w.hca) (λ _. refl) (λ _ _. refl)
opens w resetting e =
    reset_is w (λ (r : Reset). at_once (reset_done r.answer) ≡ false → r.world.hca ≡ w.hca) (λ _ _. refl)
    (λ _ f. absurd (true≢false f)) e

abbrev CountsKept : World → World → Type 0
CountsKept w u = (u.hca.logs ≡ w.hca.logs) × (u.hca.store_len ≡ w.hca.store_len)

pub counts : Counts
unfolding world_moved world_freed initialises
counts w (command bytes mail) e = (command_kept w bytes mail).counted e
counts w (engine_request n index psn code) e =
    (engine_kept w n index psn code).counted (engine_plain w n index psn code (submit_engine w n index psn code).answer)
counts w (step k) e = step_is w k (λ (s : Stepped). CountsKept w s.world) (λ _. (refl, refl)) (λ _ _ _. (refl, refl))
counts w (collection k out) e = collect_is w k out (λ (c : Collected). CountsKept w c.world) (λ _. (refl, refl)) (λ _ _. (refl, refl))
counts w resetting e = reset_is w (λ (r : Reset). CountsKept w r.world) (λ _. (refl, refl)) (λ _. (refl, refl))

pub sizes : Sizes
unfolding world_moved world_freed
sizes w (command bytes mail) = (command_kept w bytes mail).sizes
sizes w (engine_request n index psn code) = (engine_kept w n index psn code).sizes
sizes w (step k) =
    step_is w k (λ (s : Stepped). SizesKept w s.world) (λ _. (refl, refl, refl))
    (λ q m s. (length-set w.row k (slot_moved w k), moved_store w k q m s, moved_room w k q m s))
sizes w (collection k out) =
    collect_is w k out (λ (c : Collected). SizesKept w c.world) (λ _. (refl, refl, refl))
    (λ _ _. (length-set w.row k (freed (get_or w.row k (slot Free))), refl, refl))
sizes w resetting =
    reset_is w (λ (r : Reset). SizesKept w r.world) (λ _. (refl, refl, refl)) (λ b. (sym (sized w b).rowed, refl, refl))
