-- A decision applied to the device's bytes, as the code does it: what it asks for, and what each branch leaves.
use Rattle.std.specs.Prelude.{◌≡◌, refl, List, ℕ, ◌+◌, ◌*◌, ◌<◌, length, set, Result, Ok, Err}
use Rattle.std.proofs.Common.{sym, ◌∙◌, subst, arith}
use Rattle.std.proofs.Math.Path.{ap}
use Rattle.std.proofs.Math.Bool.{true}
use Rattle.std.proofs.Math.Seq.{get_or-set_same}
use Rattle.words.specs.Parts.{part}
use Rattle.context.specs.declared.Logs.{Logs}
use Rattle.requests.specs.declared.Request.{Request}
use Rattle.mailboxes.specs.Mailboxes.{need_of}
use Rattle.bursts.specs.Room.{room_filled}
use Rattle.slots.specs.Slots.{slot}
use Rattle.slots.specs.declared.Slot.{Slot}
use Rattle.slots.specs.declared.Status.TheVariants.{Free, Running}
use Rattle.possible.specs.declared.Hca.{Hca}
use Rattle.records.specs.Memory.{Memory, memory}
use Rattle.rules.specs.declared.Refusal.{Refusal}
use Rattle.rules.specs.Numbers.{refusal_number}
use Rattle.rules.specs.World.{World, world, shut}
use Rattle.rules.specs.World as rules
use Rattle.rules.specs.Admission.{applied, world_opened, world_closed, world_taken}
use Rattle.rules.specs.declared.Decision.{Decision}
use Rattle.rules.specs.declared.Decision.TheVariants as decide
use Rattle.apply_parts.specs.Parts.{Opening, Taking, Opened}
use Rattle.applying.specs.Applies.{Applies}
use Rattle.device_bytes.specs.Decoding.{row_of, hca_of}
use Rattle.device_bytes.specs.Encoding.{put_slot, put_header}
use Rattle.device_calls.specs.Calls.{world_of, slot_in, Left, left, submit_left}
use Rattle.device_calls.proofs.Tests.{eight}

-- the device has its bytes and this state, and what is lent has the lengths that the decision asks for
pub record Ready (h : Hca) (dev : List ℕ) (s r m : ℕ) (d : Result Decision Refusal) : Type 0 where
  pub sized : length dev ≡ 288
  pub is : h ≡ hca_of dev
  pub applies : Applies s r m d

-- a request that takes slot k
pub record Placing (q : Request) (k r m n : ℕ) : Type 0 where
  pub taking : Taking q k r m
  pub sized : n ≡ 288
  pub below : k < 8

-- what is left of a slot that was taken
pub taken_leaves : (q : Request) (k w : ℕ) (t : Slot) (dev out room after mail : List ℕ) → w ≡ k → t ≡ slot (Running 0 q)
    → out ≡ put_slot k t dev → after ≡ room_filled k (part 0 (need_of q) mail) room
    → (256 * (w + 1) ≡ 256 * (k + 1)) × (out ≡ put_slot k (slot (Running 0 q)) dev) × (after ≡ room_filled k (part 0 (need_of q) mail) room)
taken_leaves q k w t dev out room after mail e f g h =
    (ap (λ (n : ℕ). 256 * (n + 1)) e, g ∙ ap (λ (s : Slot). put_slot k s dev) f, h)

module _ {h : Hca} {dev : List ℕ} {s r m : ℕ} {d : Result Decision Refusal} (ready : Ready h dev s r m d) where
  pub opening : (g : Logs) → d ≡ Ok (decide.Open g) → Opening g s
  opening g e = subst (Applies s r m) e ready.applies

  pub placing : (q : Request) (k : ℕ) → d ≡ Ok (decide.Take q k) → Placing q k r m (length dev)
  placing q k e =
      let t : Taking q k r m = subst (Applies s r m) e ready.applies in
      record { taking = t; sized = ready.sized; below = t.below }

module _ (h : Hca) (dev store room mail : List ℕ) (d : Result Decision Refusal) (ready : Ready h dev (length store) (length room) (length mail) d) where
  -- what is left is the decision applied
  abbrev Does : Left → Type 0
  Does x = x ≡ submit_left dev (applied (world_of dev store room) mail d)

  pub refuse_leaves : (c : Refusal) (n : ℕ) → d ≡ Err c → n ≡ refusal_number c → Does (left n dev store room)
  unfolding submit_left
  refuse_leaves c n is e = rw (is, e)

  pub nothing_leaves : (out : List ℕ) → d ≡ Ok decide.Nothing → out ≡ put_header h dev → Does (left 0 out store room)
  unfolding submit_left
  nothing_leaves out is e = rw (is, e, ready.is)

  pub close_leaves : (out : List ℕ) (g : Hca) → d ≡ Ok decide.Close → g ≡ shut h → out ≡ put_header g dev → Does (left 0 out store room)
  unfolding submit_left world_closed
  close_leaves out g is f e = rw (is, e, f, ready.is)

  pub open_leaves : (out after : List ℕ) (g : Logs) (n : Hca) → d ≡ Ok (decide.Open g) → Opened g store after n → out ≡ put_header n dev
      → Does (left 0 out after room)
  unfolding submit_left world_opened
  open_leaves out after g n is o e =
      rw (is, e)
      (ap (λ (x : Hca). left 0 (put_header x dev) after room) o.state
      ∙ ap (λ (x : Memory). left 0 (put_header (rules.hca_of true g (length store)) dev) x.store room) o.zero)

  pub take_leaves : (out after : List ℕ) (q : Request) (k n : ℕ) → d ≡ Ok (decide.Take q k) → n ≡ 256 * (k + 1)
      → out ≡ put_slot k (slot (Running 0 q)) dev → after ≡ room_filled k (part 0 (need_of q) mail) room → Does (left n out store after)
  unfolding submit_left world_taken
  take_leaves out after q k n is e f g =
      let s : Slot = slot (Running 0 q) in
      let below : k < 8 = (placing ready q k is).below in
      let there : slot_in (set (row_of dev) k s) k ≡ s =
      get_or-set_same (row_of dev) k s (slot Free) (omega (arith, eight dev ready.sized, below)) in
      rw (is, e, f, g) (ap (λ (x : Slot). left (256 * (k + 1)) (put_slot k x dev) store (room_filled k (part 0 (need_of q) mail) room)) (sym there))
