-- A step of a slot that was looked up: what the slot promises to a burst if its request runs, and what the burst makes of the step.
use Rattle.std.specs.Prelude.{◌≡◌, refl, true, List, [], ◌∷◌, ℕ, get_or, set, Ok}
use Rattle.std.proofs.Common.{sym, ◌∙◌, ⊎_elim, arith}
use Rattle.std.proofs.Math.Path.{ap}
use types.Run.{OneOf}
use denote.Enum.Declared.{tag_of, declared}
use Rattle.words.proofs.Choice.{both_left, pick_no}
use Rattle.context.specs.Layout.{ranges_hold, fits_store}
use Rattle.requests.specs.declared.Request.{Request}
use Rattle.request_table.specs.Records.{records_of}
use Rattle.records.specs.Calls.{Moving}
use Rattle.records.specs.Laws.{all_records_lem}
use Rattle.slots.specs.Slots.{slot, advanced_slot}
use Rattle.slots.specs.declared.Advanced.{Advanced}
use Rattle.slots.specs.declared.Slot.{Slot}
use Rattle.slots.specs.declared.Status.{Status}
use Rattle.slots.specs.declared.Status.TheVariants.{Free, Running, Finished}
use Rattle.slots.specs.contracts.Status as Status'
use Rattle.possible.proofs.Laws.{open_fits as fits}
use Rattle.possible.specs.declared.Hca.{Hca}
use Rattle.rules.specs.declared.Refusal.TheVariants as cause
use Rattle.rules.specs.World.{World, world, with_row, with_memory, with_room, status_at, bad_lent, bad_state}
use Rattle.rules.specs.Steps.{Stepped, stepped, step_refused, slot_moved, world_moved, memory_moved, room_moved, step_on, step_of}
use Rattle.rules.specs.Laws.Decided.{Passing}
use Rattle.rules.proofs.Laws.Lent.{Sized, Runs, lent_sized, in_row, open_fits, running}
use Rattle.rules.proofs.Laws.Outcomes.{running_open}
use Rattle.moving.specs.Moves.{Moved, moved, burst_moved}

-- slot k, looked up in a world that passed the first tests
pub record LookedUp (w : World) (k : ℕ) (s : Slot) : Type 0 where
  pub passing : Passing w
  pub is : s ≡ get_or w.row k (slot Free)

never_free : (q : Request) (m : ℕ) (s : Status) → s ≡ Running m q → ¬ (s ≡ Free)
never_free q m s e f = let z : ◌≡◌ {A = ℕ} 0 1 = cc in omega arith

-- ---- a running slot's burst can be moved

module _ {w : World} {k : ℕ} {s : Slot} {q : Request} {m : ℕ} (found : LookedUp w k s) (runs : s.status ≡ Running m q) where
  now : status_at k w.row ≡ Running m q
  unfolding status_at
  now = ap (λ (x : Slot). x.status) (sym found.is) ∙ runs

  opened : w.hca.«open» ≡ true
  opened = running_open w found.passing.possible k q m now w.hca.«open» refl

  ranges_hold_lem : ranges_hold w.hca.logs ≡ true
  unfolding bad_state fits_store
  ranges_hold_lem = both_left (ranges_hold w.hca.logs) _ (fits w.hca w.row opened found.passing.possible)

  right : Runs w q m
  right = running w found.passing.possible opened k q m now

  lengths_right : Sized w
  lengths_right = lent_sized w found.passing.lent

  pub moving : Moving w.hca.logs w.memory.store w.room k q m
  moving = record {
    stored = record {
      ranges = ranges_hold_lem;
      valid = right.valid;
      fits = open_fits w found.passing.lent found.passing.possible opened;
    };
    all = all_records_lem w.hca.logs (records_of q) right.all;
    more = right.more;
    below = in_row w lengths_right k (never_free q m (status_at k w.row) now);
    roomed = lengths_right.roomed;
  }

-- ---- the step that is made

-- slot k one burst further, and the burst moved
abbrev after : World → ℕ → Advanced → Moved → Stepped
after w k a y = stepped (Ok a.left) (with_room (with_memory (with_row w (set w.row k a.slot)) y.memory) y.room)

module _ (h : Hca) (row : List Slot) (store room : List ℕ) (k : ℕ) where
  -- a burst that was moved, and the slot one burst further
  pub step_made : {q : Request} {m : ℕ} (s : Slot) (out room_out : List ℕ) (a : Advanced)
      → LookedUp (world h row store room) k s → s.status ≡ Running m q → moved out room_out ≡ burst_moved h store room k q m
      → a ≡ advanced_slot s
      → stepped (Ok a.left) (world h (set row k a.slot) out room_out) ≡ step_on (world h row store room) k s.status
  unfolding step_on world_moved slot_moved burst_moved memory_moved room_moved
  step_made s out room_out a found runs burst next =
      ap (λ (y : Advanced). after (world h row store room) k y (moved out room_out)) (next ∙ ap advanced_slot found.is)
      ∙ ap (after (world h row store room) k (advanced_slot (get_or row k (slot Free)))) burst
      ∙ ap (step_on (world h row store room) k) (sym runs)

-- no request runs in the slot
pub step_none : (w : World) (k : ℕ) (t : Status) → OneOf (0 ∷ 2 ∷ []) (tag_of (declared Status'.enum) t)
    → step_refused w cause.NoRequest ≡ step_on w k t
unfolding step_on
step_none w k Free o = refl
step_none w k (Running m q) o = absurd (⊎_elim (λ (e : ◌≡◌ {A = ℕ} 1 0). omega arith) (λ (e : ◌≡◌ {A = ℕ} 1 2). omega arith) o)
step_none w k (Finished m q) o = refl

-- the first tests passed, so that the slot decides
pub step_goes : (w : World) (k : ℕ) (s : Slot) (y : Stepped) → LookedUp w k s → y ≡ step_on w k s.status → y ≡ step_of w k
unfolding step_of status_at
step_goes w k s y found e =
    pick_no (bad_lent w) _ _ y found.passing.lent
    (pick_no (bad_state w) _ _ y found.passing.possible (e ∙ ap (λ (x : Slot). step_on w k x.status) found.is))
