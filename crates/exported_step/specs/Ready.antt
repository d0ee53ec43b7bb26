-- A step on the device's bytes, as the code makes it: what its tests leave known, and what each return makes of the call.
use Rattle.std.specs.Prelude.{◌≡◌, Bool, true, false, List, [], ◌∷◌, ℕ, ◌*◌, ◌<◌, length, set}
use Rattle.std.proofs.Math.Path.{refl, ap}
use Rattle.std.proofs.Common.{sym, ◌∙◌, arith}
use types.Run.{OneOf}
use denote.Enum.Declared.{tag_of, declared}
use Rattle.std.proofs.Math.Seq.{get_or-set_same}
use Rattle.words.specs.Choice.{pick}
use Rattle.requests.specs.declared.Request.{Request}
use Rattle.slots.specs.Slots.{slot, advanced_slot}
use Rattle.slots.specs.declared.Advanced.{Advanced}
use Rattle.slots.specs.declared.Slot.{Slot}
use Rattle.slots.specs.declared.Status.{Status}
use Rattle.slots.specs.declared.Status.TheVariants.{Free, Running}
use Rattle.slots.specs.contracts.Status as Status'
use Rattle.records.specs.Calls.{Moving}
use Rattle.possible.specs.declared.Hca.{Hca}
use Rattle.rules.specs.World.{World, world, status_at, bad_lent, bad_state}
use Rattle.rules.specs.Steps.{Stepped, stepped, step_on, step_of}
use Rattle.rules.specs.Laws.Decided.{Passing}
use Rattle.moving.specs.Moves.{moved, burst_moved}
use Rattle.moving.specs.Steps.{LookedUp, moving, step_made, step_none}
use Rattle.device_bytes.specs.Decoding.{slot_at, row_of, hca_of}
use Rattle.device_bytes.specs.Encoding.{put_moved}
use Rattle.device_calls.specs.Calls.{world_of, slot_in, Left, left, step_left, step_call}
use Rattle.device_calls.specs.Tests.{first_number, world_number, Tested}
use Rattle.device_calls.proofs.Tests.{first_is, tested}
use Rattle.device_calls.proofs.Tests.{eight, read_slot, past_eighth}

-- a device that passed the first tests, its state, and one of its slots
pub record Ready (h : Hca) (dev store room : List ℕ) (k : ℕ) : Type 0 where
  pub passed : Tested dev store room
  pub is : h ≡ hca_of dev
  pub below : k < 8

pub ready : (h : Hca) (dev store room : List ℕ) (k n : ℕ) → n ≡ first_number dev (length store) (length room) → n ≡ 0 → h ≡ hca_of dev
    → k < 8 → Ready h dev store room k
ready h dev store room k n e z i l = record { passed = tested dev store room n e z; is = i; below = l }

-- ---- the slot that was read

module _ {h : Hca} {dev store room : List ℕ} {k : ℕ} (r : Ready h dev store room k) {s : Slot} (read : s ≡ slot_at k dev) where
  found : LookedUp (world_of dev store room) k s
  found = record { passing = r.passed.passing; is = read_slot dev store room k s r.passed r.below read }

  status_is : s.status ≡ status_at k (row_of dev)
  unfolding status_at
  status_is = ap (λ (x : Slot). x.status) found.is

  -- its burst can be moved
  pub can_move : {q : Request} {m : ℕ} → s.status ≡ Running m q → Moving h.logs store room k q m
  can_move e = ap_logs (moving found e)
    where
      ap_logs : {q : Request} {m : ℕ} → Moving (hca_of dev).logs store room k q m → Moving h.logs store room k q m
      ap_logs {q = q} {m = m} x = rw r.is x

  -- no request runs in it
  pub none_left : OneOf (0 ∷ 2 ∷ []) (tag_of (declared Status'.enum) s.status)
      → left 0x84 dev store room ≡ step_left dev k (step_on (world_of dev store room) k (status_at k (row_of dev)))
  unfolding step_left
  none_left o =
      ap (step_left dev k) (step_none (world_of dev store room) k s.status o
      ∙ ap (step_on (world_of dev store room) k) status_is)

  -- the burst was moved, and the slot is one burst further
  pub moved_left : {q : Request} {m : ℕ} (out room_out after : List ℕ) (a : Advanced) (n : ℕ) → s.status ≡ Running m q
      → moved out room_out ≡ burst_moved h store room k q m → a ≡ advanced_slot s → after ≡ put_moved k a.slot dev → n ≡ a.left
      → left (256 * n) after out room_out ≡ step_left dev k (step_on (world_of dev store room) k (status_at k (row_of dev)))
  unfolding step_left
  moved_left {q = q} {m = m} out room_out after a n e burst next put count =
      let there : slot_in (set (row_of dev) k a.slot) k ≡ a.slot =
      get_or-set_same (row_of dev) k a.slot (slot Free) (omega (arith, eight dev r.passed.sized, r.below)) in
      let same : moved out room_out ≡ burst_moved (hca_of dev) store room k q m =
      burst ∙ ap (λ (x : Hca). burst_moved x store room k q m) r.is in
      rw (put, count)
      (ap (λ (x : Slot). left (256 * a.left) (put_moved k x dev) out room_out) (sym there)
      ∙ ap (step_left dev k)
      (step_made (hca_of dev) (row_of dev) store room k s out room_out a found e same next
      ∙ ap (step_on (world_of dev store room) k) status_is))

-- ---- the tests

module _ (dev store room : List ℕ) (k n : ℕ) (asked : n ≡ first_number dev (length store) (length room)) where
  pub left_refused : ¬ (n ≡ 0) → left n dev store room ≡ step_call dev store room k
  unfolding step_call step_left step_of
  left_refused z = rw (asked ∙ first_is dev store room) (go (bad_lent w) refl (bad_state w) refl)
    where
      w : World
      w = world_of dev store room

      go : (a : Bool) → bad_lent w ≡ a → (b : Bool) → bad_state w ≡ b
          → left (world_number w) dev store room ≡ step_left dev k (step_of w k)
      go true e b f = rw e
      go false e true f = rw (e, f)
      go false e false f = absurd (z (asked ∙ first_is dev store room ∙ rw (e, f)))

  module _ (passed : n ≡ 0) where
    goes : (x : Left) → x ≡ step_left dev k (step_on (world_of dev store room) k (status_at k (row_of dev))) → x ≡ step_call dev store room k
    unfolding step_call step_of
    goes x e =
        let p : Passing (world_of dev store room) = (tested dev store room n asked passed).passing in
        rw (p.lent, p.possible) e

    pub left_past : 7 < k → left 0x84 dev store room ≡ step_call dev store room k
    unfolding step_left step_on
    left_past l = goes (left 0x84 dev store room) (rw (past_eighth dev k (tested dev store room n asked passed).sized l))

    pub left_stepped : (answer : ℕ) (after out room_out : List ℕ)
        → left answer after out room_out ≡ step_left dev k (step_on (world_of dev store room) k (status_at k (row_of dev)))
        → left answer after out room_out ≡ step_call dev store room k
    left_stepped answer after out room_out e = goes (left answer after out room_out) e
