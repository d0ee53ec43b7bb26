-- A collection of a slot that was looked up: what the slot promises to the writer of its answer if its request is finished, and what
-- that and the refusals make of the collection.
use Rattle.std.specs.Prelude.{◌≡◌, refl, List, ℕ, ◌≤◌, ◌<◌, length, get_or, set, Ok}
use Rattle.std.proofs.Common.{sym, ◌∙◌, ap, arith, lt-ltb, le-ltb}
use Rattle.std.proofs.Math.Decide.{dec_lt}
use Rattle.words.proofs.Choice.{pick_yes, pick_no}
use Rattle.words.specs.Parts.{splice}
use Rattle.requests.specs.declared.Request.{Request}
use Rattle.answers.specs.Answers.{answer_of, answer_size}
use Rattle.burst_table.specs.Sizes.{slot_count, room_size}
use Rattle.bursts.specs.Room.{room_of}
use Rattle.slots.specs.Slots.{slot, freed}
use Rattle.slots.specs.declared.Slot.{Slot}
use Rattle.slots.specs.declared.Status.{Status}
use Rattle.slots.specs.declared.Status.TheVariants.{Free, Running, Finished}
use Rattle.rows.proofs.Laws.{slot_beyond}
use Rattle.rules.specs.declared.Refusal.TheVariants as cause
use Rattle.rules.specs.World.{World, with_row, status_at}
use Rattle.rules.specs.Collections.{Collected, collected, collect_refused, answer_at, world_freed}
use Rattle.rules.specs.Collections.{collect_finished, collect_on, collect_of}
use Rattle.rules.specs.Laws.Decided.{Passing}
use Rattle.answering.specs.Answered.{Answerable}

-- a finished slot is one of the eight
pub answerable : (row : List Slot) {room : List ℕ} {k : ℕ} {s : Slot} {m : ℕ} {q : Request} → length row ≡ slot_count
    → room_size ≤ length room → s ≡ get_or row k (slot Free) → s.status ≡ Finished m q
    → (out : List ℕ) (size : ℕ) → size ≡ answer_size q → size ≤ length out → Answerable room k q out
answerable row {room} {k} {s} {m} {q} rowed roomed is e out size n l =
    record { below = go (dec_lt k slot_count); roomed = roomed; enough = omega (arith, n) }
  where
    go : Dec (k < slot_count) → k < slot_count
    go (yes h) = h
    go (no h) =
        let f : slot Free ≡ get_or row k (slot Free) = slot_beyond row k rowed (omega arith) in
        let t : s.status ≡ Free = ap (λ (x : Slot). x.status) (is ∙ sym f) in
        let z : ◌≡◌ {A = ℕ} 0 1 = cc in absurd (omega arith)

-- ---- the collection that is made

module _ (w : World) (k : ℕ) (out : List ℕ) (t : Status) where
  pub on_free : t ≡ Free → collect_refused w out cause.NoRequest ≡ collect_on w k out t
  unfolding collect_on
  on_free e = rw e

  pub on_running : {m : ℕ} {q : Request} → t ≡ Running m q → collect_refused w out cause.StillRunning ≡ collect_on w k out t
  unfolding collect_on
  on_running e = rw e

  module _ {m : ℕ} {q : Request} (done : t ≡ Finished m q) (size : ℕ) (size_is : size ≡ answer_size q) where
    pub on_short : length out < size → collect_refused w out cause.ShortBuffer ≡ collect_on w k out t
    unfolding collect_on collect_finished
    on_short l = rw done (pick_yes _ _ _ _ (lt-ltb (length out) (answer_size q) (omega (arith, size_is))) refl)

    -- the answer that was written, and the slot freed
    pub on_collected : size ≤ length out → (written : List ℕ) → written ≡ splice 0 (answer_of q (room_of k w.room)) out
        → (f : Slot) → f ≡ freed (get_or w.row k (slot Free))
        → collected (Ok size) (with_row w (set w.row k f)) written ≡ collect_on w k out t
    unfolding collect_on collect_finished world_freed answer_at
    on_collected l written e f g =
        rw done (pick_no _ _ _ _ (le-ltb (length out) (answer_size q) (omega (arith, size_is))) (rw (size_is, e, g)))

-- the first tests passed, so that the slot decides
pub collect_goes : (w : World) (k : ℕ) (out : List ℕ) (s : Slot) (y : Collected) → Passing w → s ≡ get_or w.row k (slot Free)
    → y ≡ collect_on w k out s.status → y ≡ collect_of w k out
unfolding collect_of status_at
collect_goes w k out s y p i e =
    pick_no _ _ _ y p.lent (pick_no _ _ _ y p.possible (e ∙ ap (λ (x : Slot). collect_on w k out x.status) i))
