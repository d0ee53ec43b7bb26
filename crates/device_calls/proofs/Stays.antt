-- Laws about the definitions of specs/Stays.antt.
use Rattle.std.specs.Prelude.{◌≡◌, true, false, ℕ, ◌^◌, ◌<◌, ltb, length, set, replicate, Result, Err}
use Rattle.std.proofs.Math.Path.{refl}
use Rattle.std.proofs.Common.{sym, ◌∙◌, ap, arith, get_or-set_same}
use mathlib.Core.List.{List, []}
use Rattle.words.specs.Choice.{either}
use Rattle.words.proofs.Choice.{by_pick}
use Rattle.words.proofs.Tests.{neither_left}
use Rattle.words.specs.Words.{AreBytes, le32, le_value, le_bytes}
use Rattle.words.specs.Parts.{part}
use Rattle.requests.specs.declared.Request.{Request}
use Rattle.request_table.specs.Records.{psn_holds}
use Rattle.slots.specs.Slots.{slot, advanced_status}
use Rattle.slots.specs.declared.Slot.{Slot}
use Rattle.slots.specs.declared.Status.{Status}
use Rattle.slots.specs.declared.Status.TheVariants.{Free, Running, Finished}
use Rattle.rows.specs.Rows.{empty_row}
use Rattle.rows.proofs.Laws.{lowest_free_is}
use Rattle.possible.specs.declared.Hca.{Hca}
use Rattle.rules.specs.declared.Refusal.TheVariants as cause
use Rattle.rules.specs.World.{World, shut, status_at, bad_lent, bad_state}
use Rattle.rules.specs.Admission.{applied, world_opened, world_closed, world_taken}
use Rattle.rules.specs.Commands.{submit_command, decide_command}
use Rattle.rules.specs.Engines.{submit_engine, decide_engine}
use Rattle.rules.specs.Steps.{Stepped, slot_moved, world_moved}
use Rattle.rules.specs.Collections.{Collected, world_freed}
use Rattle.rules.specs.Resets.{Reset}
use Rattle.rules.proofs.Laws.Lent.{lent_sized, in_row}
use Rattle.rules.specs.Laws.Decided.{Judging, Decided, plain, denied, misnamed}
use Rattle.rules.proofs.Laws.Decided.{command_decided, engine_decided}
use Rattle.rules.specs.Laws.Decided as decided
use Rattle.rules.specs.Laws.Outcomes.{Stepping, Collecting}
use Rattle.rules.proofs.Laws.Outcomes.{step_is, collect_is, reset_is}
use Rattle.rules.specs.Calls.{Asked}
use Rattle.rules.specs.declared.Decision.{Decision}
use Rattle.rules.specs.declared.Refusal.{Refusal}
use Rattle.device_bytes.specs.Decoding.{status_of, slot_at, slots_of, row_of, hca_of}
use Rattle.device_bytes.specs.Encoding.{header_bytes, row_bytes, device_bytes, put_slot, put_moved, put_header}
use Rattle.device_bytes.proofs.Headers.{length_small}
use Rattle.device_bytes.proofs.Canonical.{slot_stays, header_stays, moved_stays}
use Rattle.device_calls.specs.Calls.{world_of, slot_in, submit_left, command_call, engine_call, step_left, step_call}
use Rattle.device_calls.specs.Calls.{collect_left, collect_call, reset_left, reset_call}
use Rattle.device_calls.proofs.Accepted.{PsnFits, command_psn, engine_psn}
use Rattle.device_calls.proofs.Decodes.{device_sized, lent_device, moves, frees, emptied_row, closed_header, headed, placed, psn_of}
use Rattle.device_calls.specs.Stays.{Written}

-- A device that is all zero is a closed, empty one, as we write it.
pub zeros_closed : hca_of (replicate 288 0) ≡ record { «open» = false; logs = record { qps = 0; cqs = 0; eqs = 0; mpts = 0 }; store_len = 0 }
unfolding hca_of le32 le_value part
zeros_closed = refl

pub zeros_empty : row_of (replicate 288 0) ≡ empty_row
unfolding row_of slots_of slot_at status_of part
zeros_empty = refl

pub zeros_written : Written (replicate 288 0)
unfolding device_bytes header_bytes row_bytes le_bytes hca_of row_of slots_of slot_at status_of le32 le_value part
zeros_written = refl

-- the device left, if its bytes are those of the state h and the row r that it decodes to
stays : {after : List ℕ} {h : Hca} {row : List Slot} → after ≡ device_bytes h row → hca_of after ≡ h → row_of after ≡ row → Written after
stays {after = after} {h = h} {row = row} e f g =
    e ∙ ap (λ (x : Hca). device_bytes x row) (sym f) ∙ ap (device_bytes (hca_of after)) (sym g)

module _ (dev store room : List ℕ) (whole : Written dev) where
  -- ---- a step

  module _ (k : ℕ) where
    pub step_stays : Written (step_call dev store room k).device
    unfolding step_call step_left world_moved slot_moved status_at
    step_stays = step_is (world_of dev store room) k (λ (x : Stepped). Written (step_left dev k x).device) (λ c. whole) (λ q m st. go q m st)
      where
        w : World
        w = world_of dev store room

        never : (q : Request) (m : ℕ) (s : Status) → s ≡ Running m q → ¬ (s ≡ Free)
        never q m s e f = let z : ◌≡◌ {A = ℕ} 0 1 = cc in omega arith

        go : (q : Request) (m : ℕ) → Stepping w k q m → Written (put_moved k (slot_in (set (row_of dev) k (slot_moved w k)) k) dev)
        go q m st =
            let h : k < length (row_of dev) = omega (
              arith,
              (lent_sized w st.lent).rowed,
              in_row w (lent_sized w st.lent) k (λ e. never q m (status_at k (row_of dev)) st.now e),
            ) in
            let left = moves dev store room k q m st in
            let next : (slot_moved w k).status ≡ advanced_status (Running m q) = ap advanced_status st.now in
            let there : slot_in (set (row_of dev) k (slot_moved w k)) k ≡ slot_moved w k =
            get_or-set_same (row_of dev) k (slot_moved w k) (slot Free) h in
            stays
            (ap (λ (x : Slot). put_moved k x dev) there ∙ ap (put_moved k (slot_moved w k)) whole
            ∙ moved_stays (hca_of dev) (row_of dev) k m q (slot_moved w k) h st.now next)
            (ap (λ (x : World). x.hca) left) (ap (λ (x : World). x.row) left)

    -- ---- a collection

    pub collect_stays : (out : List ℕ) → Written (collect_call dev store room k out).device
    unfolding collect_call collect_left world_freed
    collect_stays out =
        collect_is (world_of dev store room) k out (λ (x : Collected). Written (collect_left dev k x).device) (λ c. whole) (λ q c. go q c)
      where
        w : World
        w = world_of dev store room

        never : (q : Request) (m : ℕ) (s : Status) → s ≡ Finished m q → ¬ (s ≡ Free)
        never q m s e f = let z : ◌≡◌ {A = ℕ} 0 2 = cc in omega arith

        go : (q : Request) → Collecting w k out q → Written (put_slot k (slot_in (set (row_of dev) k (slot Free)) k) dev)
        go q c =
            let h : k < length (row_of dev) = omega (
              arith,
              (lent_sized w c.lent).rowed,
              in_row w (lent_sized w c.lent) k (λ e. never q c.moves (status_at k (row_of dev)) c.now e),
            ) in
            let left = frees dev store room k out q c in
            stays
            (ap (λ (x : Slot). put_slot k x dev) (get_or-set_same (row_of dev) k (slot Free) (slot Free) h) ∙ ap (put_slot k (slot Free)) whole
            ∙ slot_stays (hca_of dev) (row_of dev) k (slot Free) h)
            (ap (λ (x : World). x.hca) left) (ap (λ (x : World). x.row) left)

  module _ (bytes : AreBytes dev) where
    -- ---- a reset: the device need not have been as we write it

    pub reset_stays : Written (reset_call dev store room).device
    unfolding reset_call reset_left
    reset_stays =
        reset_is (world_of dev store room) (λ (x : Reset). Written (reset_left dev x).device) (λ c. whole)
        (λ e. stays refl (closed_header (shut (hca_of dev)) (length_small dev (device_sized dev store room e) bytes)) (emptied_row (hca_of dev)))

    -- ---- submissions

    module _ (mail : List ℕ) (small : length store < 2 ^ 64) where
      abbrev Stay : Result Decision Refusal → Type 0
      Stay d = Written (submit_left dev (applied (world_of dev store room) mail d)).device

      taken : {q : Request} {k : ℕ} → Judging (world_of dev store room) q mail → psn_holds q ≡ true → k < length (row_of dev)
          → Written (put_slot k (slot_in (set (row_of dev) k (slot (Running 0 q))) k) dev)
      taken {q = q} {k = k} j p h =
          let left = placed dev store room mail bytes small j p h room in
          let s : Slot = slot (Running 0 q) in
          stays
          (ap (λ (x : Slot). put_slot k x dev) (get_or-set_same (row_of dev) k s (slot Free) h) ∙ ap (put_slot k s) whole
          ∙ slot_stays (hca_of dev) (row_of dev) k s h)
          (ap (λ (x : World). x.hca) left) (ap (λ (x : World). x.row) left)

      topped : bad_lent (world_of dev store room) ≡ false → bad_state (world_of dev store room) ≡ false → (h : Hca) → h.store_len < 2 ^ 64
          → Written (put_header h dev)
      topped e f h n =
          let left = headed dev store room mail bytes small e f h n store in
          stays (ap (put_header h) whole ∙ header_stays (hca_of dev) h (row_of dev))
          (ap (λ (x : World). x.hca) left) (ap (λ (x : World). x.row) left)

      decision_stays : {a : Asked} {d : Result Decision Refusal} → bad_lent (world_of dev store room) ≡ false → bad_state (world_of dev store room) ≡ false
          → Decided (world_of dev store room) mail a d → PsnFits d → Stay d
      unfolding submit_left world_taken world_closed world_opened
      decision_stays e f (plain c g) p = whole
      decision_stays e f (denied j g) p = whole
      decision_stays e f (misnamed m) p = whole
      decision_stays e f (decided.takes {q = q} {k = k} j v n) p =
          taken j (psn_of dev store room mail bytes small p) (lowest_free_is (row_of dev) k n).inside
      decision_stays e f (decided.closes o n) p = topped e f (shut (hca_of dev)) (length_small dev (lent_device dev store room e) bytes)
      decision_stays e f decided.rests p = topped e f (hca_of dev) (length_small dev (lent_device dev store room e) bytes)
      decision_stays e f (decided.opens n o i) p = topped e f _ small

      pub command_stays : (register : List ℕ) → Written (command_call dev store room register mail).device
      unfolding command_call submit_command submit_left decide_command
      command_stays register =
          by_pick Stay (either (bad_lent w) (ltb (length register) 28)) (Err cause.BadLength) _ (λ _. whole)
          (λ g. by_pick Stay (bad_state w) (Err cause.Impossible) _ (λ _. whole)
          (λ f. decision_stays (neither_left (bad_lent w) _ g) f
          (rw (g, f) at (command_decided w register mail)) (rw (g, f) at (command_psn w register mail))))
        where
          w : World
          w = world_of dev store room

    pub engine_stays : length store < 2 ^ 64 → (number index psn state : ℕ)
        → Written (engine_call dev store room number index psn state).device
    unfolding engine_call submit_engine submit_left decide_engine
    engine_stays small number index psn state =
        by_pick (Stay [] small) (bad_lent w) (Err cause.BadLength) _ (λ _. whole)
        (λ e. by_pick (Stay [] small) (bad_state w) (Err cause.Impossible) _ (λ _. whole)
        (λ f. decision_stays [] small e f
        (rw (e, f) at (engine_decided w number index psn state)) (rw (e, f) at (engine_psn w number index psn state))))
      where
        w : World
        w = world_of dev store room
