-- Whatever bytes a call was lent, the bytes that it leaves decode to the world that the rules leave.
use Rattle.std.proofs.Math.Path.{◌≡◌, refl, ap}
use Rattle.std.proofs.Common.{sym, ◌∙◌, lit<, lit≤}
use Rattle.std.specs.Prelude.{Bool, not, ℕ, ◌^◌, ◌≤◌, ◌<◌, ltb, replicate, Result, Ok, Err}
use Rattle.std.proofs.Math.Bool.{true, false}
use Rattle.std.proofs.lemmas.Bool.{false≢true}
use mathlib.Core.List.{List, []}
use Rattle.std.proofs.Math.Decide.{ℕ_discrete, dec_lt}
use native.Mathlib.Omega.{arith}
use borrow.Author.Tests.{eq-eqb, ne_eqb, lt-ltb, le-ltb}
use Rattle.std.proofs.Math.Dec.{eqb}
use Rattle.std.proofs.Math.ListN.{length, get_or, set}
use Rattle.std.proofs.Math.Seq.{get_or-set_same}
use Rattle.words.specs.Choice.{pick, either}
use Rattle.words.proofs.Choice.{by_pick, both_left}
use Rattle.words.proofs.Tests.{neither_left}
use Rattle.words.specs.Words.{AreBytes, le32, le_bytes}
use Rattle.words.specs.Parts.{part}
use Rattle.context.specs.Layout.{ranges_hold, fits_store}
use Rattle.requests.specs.declared.Request.{Request}
use Rattle.request_table.specs.Records.{psn_holds}
use Rattle.slots.specs.Slots.{slot, advanced_status, is_occupied}
use Rattle.slots.specs.declared.Slot.{Slot}
use Rattle.slots.specs.declared.Status.{Status}
use Rattle.slots.specs.declared.Status.TheVariants.{Free, Running, Finished}
use Rattle.rows.specs.Rows.{any_slot, empty_row}
use Rattle.rows.proofs.Laws.{lowest_free_is}
use Rattle.possible.specs.Possible.{impossible}
use Rattle.possible.proofs.Laws.{open_fits}
use Rattle.possible.specs.declared.Hca.{Hca}
use Rattle.rules.specs.declared.Refusal.{Refusal}
use Rattle.rules.specs.declared.Refusal.TheVariants as cause
use Rattle.rules.specs.World.{World, world, shut, status_at, bad_row, bad_store, bad_lent, bad_state}
use Rattle.rules.specs.Admission.{Submitted, applied, world_opened, world_closed, world_taken}
use Rattle.rules.specs.Commands.{submit_command, decide_command}
use Rattle.rules.specs.Engines.{submit_engine, decide_engine}
use Rattle.rules.specs.Steps.{Stepped, step_refused, slot_moved, world_moved, memory_moved, room_moved, step_of}
use Rattle.rules.specs.Collections.{Collected, collect_refused, world_freed, collect_of}
use Rattle.rules.specs.Resets.{Reset, world_reset, reset_of}
use Rattle.rules.proofs.Laws.Lent.{sized, lent_sized, in_row}
use Rattle.rules.specs.Laws.Decided.{Passing, Judging, Decided, plain, denied, misnamed}
use Rattle.rules.proofs.Laws.Decided.{command_decided, engine_decided}
use Rattle.rules.specs.Laws.Decided as decided
use Rattle.rules.specs.Laws.Outcomes.{Stepping, Collecting}
use Rattle.rules.proofs.Laws.Outcomes.{step_is, collect_is, reset_is}
use Rattle.rules.specs.Calls.{Asked}
use Rattle.rules.specs.declared.Decision.{Decision}
use Rattle.rules.specs.declared.Decision.TheVariants as decide
use Rattle.device_bytes.specs.Decoding.{slot_place, broken, status_of, slot_at, slots_of, row_of, hca_of}
use Rattle.device_bytes.specs.Encoding.{header_bytes, hca_bytes, row_bytes, device_bytes, put_slot, put_moved, put_header}
use Rattle.device_bytes.proofs.RoundTrip.{slot_fits, header_round}
use Rattle.device_bytes.proofs.Rewritten.{row_put, one_put, one_moved, hca_kept, row_moved}
use Rattle.device_bytes.proofs.Headers.{length_small, hca_put}
use Rattle.device_bytes.proofs.Headers as headers
use Rattle.device_bytes.proofs.Walks.{length_slots, get_or_slots}
use Rattle.device_calls.specs.Calls.{world_of, slot_in, submit_left, command_call, engine_call, step_left, step_call}
use Rattle.device_calls.specs.Calls.{collect_left, collect_call, reset_left, reset_call}
use Rattle.device_calls.proofs.Accepted.{PsnFits, takes, command_psn, engine_psn, request_fits}

-- ---- what the tests of lengths and state say of the bytes

module _ (dev store room : List ℕ) where
  pub device_sized : bad_row (world_of dev store room) ≡ false → length dev ≡ 288
  unfolding row_of
  device_sized e = go (ℕ_discrete (length dev) 288)
    where
      go : Dec (length dev ≡ 288) → length dev ≡ 288
      go (yes y) = y
      go (no y) = let z : ◌≡◌ {A = ℕ} 0 8 = rw (ne_eqb (length dev) 288 y) at (sized (world_of dev store room) e).rowed in absurd (omega arith)

  pub lent_device : bad_lent (world_of dev store room) ≡ false → length dev ≡ 288
  unfolding bad_lent
  lent_device e = device_sized (neither_left (bad_row (world_of dev store room)) (bad_store (world_of dev store room)) e)

  pub flag_right : length dev ≡ 288 → bad_state (world_of dev store room) ≡ false → get_or dev 0 0 ≤ 1
  unfolding bad_state impossible hca_of row_of any_slot
  flag_right l e = go (dec_lt 1 (get_or dev 0 0))
    where
      go : Dec (1 < get_or dev 0 0) → get_or dev 0 0 ≤ 1
      go (yes y) =
          let n : eqb (get_or dev 0 0) 1 ≡ false = ne_eqb (get_or dev 0 0) 1 (λ i. omega arith) in
          absurd (false≢true (sym (rw (eq-eqb (length dev) 288 l, lt-ltb 1 (get_or dev 0 0) y, n) at e)))
      go (no y) = omega arith

module _ (dev : List ℕ) (l : length dev ≡ 288) (o : get_or dev 0 0 ≤ 1) where
  row_is : row_of dev ≡ slots_of 8 dev
  unfolding row_of
  row_is = rw (eq-eqb (length dev) 288 l, le-ltb 1 (get_or dev 0 0) o)

  pub row_eight : length (row_of dev) ≡ 8
  row_eight = ap length row_is ∙ length_slots 8 dev

  pub slot_is : (k : ℕ) → k < 8 → slot_in (row_of dev) k ≡ slot_at k dev
  slot_is k h = ap (λ (row : List Slot). slot_in row k) row_is ∙ get_or_slots 8 dev k h (lit≤ tt)

-- ---- a step

module _ (dev store room : List ℕ) (k : ℕ) where
  abbrev StepDecodes : Stepped → Type 0
  StepDecodes x = world_of (step_left dev k x).device (step_left dev k x).store (step_left dev k x).room ≡ x.world

  pub moves : (q : Request) (m : ℕ) → Stepping (world_of dev store room) k q m
      → world_of (put_moved k (slot_in (set (row_of dev) k (slot_moved (world_of dev store room) k)) k) dev)
      (memory_moved (world_of dev store room) k q m).store (room_moved (world_of dev store room) k q m)
      ≡ world_moved (world_of dev store room) k q m
  unfolding world_moved slot_moved status_at
  moves q m st =
      let w : World = world_of dev store room in
      let l : length dev ≡ 288 = lent_device dev store room st.lent in
      let o : get_or dev 0 0 ≤ 1 = flag_right dev store room l st.possible in
      let h : k < 8 = in_row w (lent_sized w st.lent) k (λ e. never q m (status_at k (row_of dev)) st.now e) in
      let s : Slot = slot (advanced_status (Running m q)) in
      let now : (slot_at k dev).status ≡ Running m q = ap (λ (x : Slot). x.status) (sym (slot_is dev l o k h)) ∙ st.now in
      let next : slot_moved w k ≡ s = ap (λ (t : Status). slot (advanced_status t)) st.now in
      let there : slot_in (set (row_of dev) k s) k ≡ s = get_or-set_same (row_of dev) k s (slot Free) (omega (arith, row_eight dev l o)) in
      let put : slot_in (set (row_of dev) k (slot_moved w k)) k ≡ s = ap (λ (x : Slot). slot_in (set (row_of dev) k x) k) next ∙ there in
      let row : row_of (put_moved k s dev) ≡ set (row_of dev) k (slot_moved w k) =
      row_moved k dev m q h l o now ∙ ap (set (row_of dev) k) (sym next) in
      ap (λ (x : Slot). world_of (put_moved k x dev) (memory_moved w k q m).store (room_moved w k q m)) put
      ∙ ap (λ (x : Hca). world x (row_of (put_moved k s dev)) (memory_moved w k q m).store (room_moved w k q m)) (hca_kept (one_moved k s dev h l))
      ∙ ap (λ (x : List Slot). world (hca_of dev) x (memory_moved w k q m).store (room_moved w k q m)) row
    where
      never : (q : Request) (m : ℕ) (s : Status) → s ≡ Running m q → ¬ (s ≡ Free)
      never q m s e f = let z : ◌≡◌ {A = ℕ} 0 1 = cc in omega arith

  pub step_decodes : world_of (step_call dev store room k).device (step_call dev store room k).store (step_call dev store room k).room
      ≡ (step_of (world_of dev store room) k).world
  unfolding step_call step_left world_moved
  step_decodes = step_is (world_of dev store room) k StepDecodes (λ c. refl) (λ q m st. moves q m st)

-- ---- a collection

module _ (dev store room : List ℕ) (k : ℕ) (out : List ℕ) where
  abbrev CollectDecodes : Collected → Type 0
  CollectDecodes x = world_of (collect_left dev k x).device store room ≡ x.world

  pub frees : (q : Request) → Collecting (world_of dev store room) k out q
      → world_of (put_slot k (slot_in (set (row_of dev) k (slot Free)) k) dev) store room ≡ world_freed (world_of dev store room) k
  unfolding world_freed
  frees q c =
      let w : World = world_of dev store room in
      let l : length dev ≡ 288 = lent_device dev store room c.lent in
      let o : get_or dev 0 0 ≤ 1 = flag_right dev store room l c.possible in
      let h : k < 8 = in_row w (lent_sized w c.lent) k (λ e. never q c.moves (status_at k (row_of dev)) c.now e) in
      let there : slot_in (set (row_of dev) k (slot Free)) k ≡ slot Free =
      get_or-set_same (row_of dev) k (slot Free) (slot Free) (omega (arith, row_eight dev l o)) in
      ap (λ (x : Slot). world_of (put_slot k x dev) store room) there
      ∙ ap (λ (x : Hca). world x (row_of (put_slot k (slot Free) dev)) store room) (hca_kept (one_put k (slot Free) dev h l))
      ∙ ap (λ (x : List Slot). world (hca_of dev) x store room) (row_put k (slot Free) dev h l o refl)
    where
      never : (q : Request) (m : ℕ) (s : Status) → s ≡ Finished m q → ¬ (s ≡ Free)
      never q m s e f = let z : ◌≡◌ {A = ℕ} 0 2 = cc in omega arith

  pub collect_decodes : world_of (collect_call dev store room k out).device store room ≡ (collect_of (world_of dev store room) k out).world
  unfolding collect_call collect_left world_freed
  collect_decodes = collect_is (world_of dev store room) k out CollectDecodes (λ c. refl) (λ q c. frees q c)

-- ---- a reset

-- a closed device with empty slots, as we write it
pub emptied_row : (h : Hca) → row_of (device_bytes (shut h) empty_row) ≡ empty_row
unfolding row_of device_bytes header_bytes row_bytes le_bytes slots_of slot_at status_of part
emptied_row h = refl

pub closed_header : (h : Hca) → h.store_len < 2 ^ 64 → hca_of (device_bytes h empty_row) ≡ h
unfolding device_bytes
closed_header h f = header_round h (row_bytes empty_row) f

module _ (dev store room : List ℕ) (bytes : AreBytes dev) where
  abbrev ResetDecodes : Reset → Type 0
  ResetDecodes x = world_of (reset_left dev x).device store room ≡ x.world

  pub reset_decodes : world_of (reset_call dev store room).device store room ≡ (reset_of (world_of dev store room)).world
  unfolding reset_call reset_left
  reset_decodes = reset_is (world_of dev store room) ResetDecodes (λ c. refl) (λ e. empties e)
    where
      empties : bad_row (world_of dev store room) ≡ false
          → world_of (device_bytes (shut (hca_of dev)) empty_row) store room ≡ world_reset (world_of dev store room)
      empties e =
          ap (λ (h : Hca). world h (row_of (device_bytes (shut (hca_of dev)) empty_row)) store room)
          (closed_header (shut (hca_of dev)) (length_small dev (device_sized dev store room e) bytes))
          ∙ ap (λ (row : List Slot). world (shut (hca_of dev)) row store room) (emptied_row (hca_of dev))

-- ---- submissions

-- the length of a store is one of 64 bits, and bytes are bytes
module _ (dev store room mail : List ℕ) (bytes : AreBytes dev) (small : length store < 2 ^ 64) where
  abbrev SubmitDecodes : Submitted → Type 0
  SubmitDecodes x = world_of (submit_left dev x).device (submit_left dev x).store (submit_left dev x).room ≡ x.world

  -- a header written anew: NOP, CLOSE_HCA, INIT_HCA
  pub headed : bad_lent (world_of dev store room) ≡ false → bad_state (world_of dev store room) ≡ false → (h : Hca) → h.store_len < 2 ^ 64
      → (st : List ℕ) → world_of (put_header h dev) st room ≡ world h (row_of dev) st room
  headed e f h n st =
      let l : length dev ≡ 288 = lent_device dev store room e in
      ap (λ (x : Hca). world x (row_of (put_header h dev)) st room) (hca_put h dev l n)
      ∙ ap (λ (x : List Slot). world h x st room) (headers.row_put h dev l (flag_right dev store room l f))

  -- a slot taken
  pub placed : {q : Request} {k : ℕ} → Judging (world_of dev store room) q mail → psn_holds q ≡ true → k < length (row_of dev) → (rm : List ℕ)
      → world_of (put_slot k (slot_in (set (row_of dev) k (slot (Running 0 q))) k) dev) store rm
      ≡ world (hca_of dev) (set (row_of dev) k (slot (Running 0 q))) store rm
  unfolding bad_state fits_store
  placed {q = q} {k = k} j p h rm =
      let l : length dev ≡ 288 = lent_device dev store room j.asking.passing.lent in
      let o : get_or dev 0 0 ≤ 1 = flag_right dev store room l j.asking.passing.possible in
      let h' : k < 8 = omega (arith, row_eight dev l o) in
      let s : Slot = slot (Running 0 q) in
      let ranges : ranges_hold (hca_of dev).logs ≡ true =
      both_left (ranges_hold (hca_of dev).logs) _ (open_fits (hca_of dev) (row_of dev) j.asking.opened j.asking.passing.possible) in
      let fits : slot_fits s.status ≡ true = request_fits (hca_of dev).logs ranges q j.asking.all p in
      ap (λ (x : Slot). world_of (put_slot k x dev) store rm) (get_or-set_same (row_of dev) k s (slot Free) h)
      ∙ ap (λ (x : Hca). world x (row_of (put_slot k s dev)) store rm) (hca_kept (one_put k s dev h' l))
      ∙ ap (λ (x : List Slot). world (hca_of dev) x store rm) (row_put k s dev h' l o fits)

  pub psn_of : {q : Request} {k : ℕ} → PsnFits (Ok (decide.Take q k)) → psn_holds q ≡ true
  psn_of (takes h) = h

  decides : {a : Asked} {d : Result Decision Refusal} → bad_lent (world_of dev store room) ≡ false → bad_state (world_of dev store room) ≡ false
      → Decided (world_of dev store room) mail a d → PsnFits d → SubmitDecodes (applied (world_of dev store room) mail d)
  unfolding submit_left world_taken world_closed world_opened
  decides e f (plain c g) p = refl
  decides e f (denied j g) p = refl
  decides e f (misnamed m) p = refl
  decides e f (decided.takes {q = q} {k = k} j v n) p = placed j (psn_of p) (lowest_free_is (row_of dev) k n).inside _
  decides e f (decided.closes o n) p = headed e f (shut (hca_of dev)) (length_small dev (lent_device dev store room e) bytes) store
  decides e f decided.rests p = headed e f (hca_of dev) (length_small dev (lent_device dev store room e) bytes) store
  decides e f (decided.opens {g = g} n o i) p = headed e f _ small _

  abbrev Applied : Result Decision Refusal → Type 0
  Applied d = SubmitDecodes (applied (world_of dev store room) mail d)

  pub command_decodes : (register : List ℕ)
      → world_of (command_call dev store room register mail).device (command_call dev store room register mail).store
      (command_call dev store room register mail).room
      ≡ (submit_command (world_of dev store room) register mail).world
  unfolding command_call submit_command submit_left decide_command
  command_decodes register =
      by_pick Applied (either (bad_lent w) (ltb (length register) 28)) (Err cause.BadLength) _ (λ _. refl)
      (λ g. by_pick Applied (bad_state w) (Err cause.Impossible) _ (λ _. refl)
      (λ f. decides (neither_left (bad_lent w) _ g) f
      (rw (g, f) at (command_decided w register mail)) (rw (g, f) at (command_psn w register mail))))
    where
      w : World
      w = world_of dev store room

-- an engine request has no mailbox
pub engine_decodes : (dev store room : List ℕ) → AreBytes dev → length store < 2 ^ 64 → (number index psn state : ℕ)
    → world_of (engine_call dev store room number index psn state).device (engine_call dev store room number index psn state).store
    (engine_call dev store room number index psn state).room
    ≡ (submit_engine (world_of dev store room) number index psn state).world
unfolding engine_call submit_engine submit_left decide_engine
engine_decodes dev store room bytes small number index psn state =
    by_pick (Applied dev store room [] bytes small) (bad_lent w) (Err cause.BadLength) _ (λ _. refl)
    (λ e. by_pick (Applied dev store room [] bytes small) (bad_state w) (Err cause.Impossible) _ (λ _. refl)
    (λ f. decides dev store room [] bytes small e f
    (rw (e, f) at (engine_decided w number index psn state)) (rw (e, f) at (engine_psn w number index psn state))))
  where
    w : World
    w = world_of dev store room
