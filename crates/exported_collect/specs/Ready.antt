-- A collection on the device's bytes, as the code makes it: what its tests leave known, and what each return makes of the call.
use Rattle.std.specs.Prelude.{◌≡◌, Bool, true, false, List, ℕ, ◌*◌, ◌≤◌, ◌<◌, length, set, replicate}
use Rattle.std.proofs.Math.Path.{refl, ap}
use Rattle.std.proofs.Common.{sym, ◌∙◌, arith, lit≤}
use Rattle.std.proofs.lemmas.List.{length-replicate}
use Rattle.std.proofs.Math.Seq.{get_or-set_same}
use Rattle.words.specs.Parts.{splice}
use Rattle.requests.specs.declared.Command.{Command}
use Rattle.requests.specs.declared.Command.TheVariants as command
use Rattle.requests.specs.declared.EngineRequest.{EngineRequest}
use Rattle.requests.specs.declared.EngineRequest.TheVariants as engine
use Rattle.requests.specs.declared.Request.{Request}
use Rattle.requests.specs.declared.Request.TheVariants as request
use Rattle.answers.specs.Answers.{answer_of, answer_size, command_answer_size, engine_answer_size}
use Rattle.burst_table.specs.Sizes.{room_size}
use Rattle.bursts.specs.Room.{room_of}
use Rattle.slots.specs.Slots.{slot, freed}
use Rattle.slots.specs.declared.Slot.{Slot}
use Rattle.slots.specs.declared.Status.{Status}
use Rattle.slots.specs.declared.Status.TheVariants.{Free, Running, Finished}
use Rattle.rules.specs.World.{World, status_at, bad_lent, bad_state}
use Rattle.rules.specs.Collections.{collect_on, collect_of}
use Rattle.rules.specs.Laws.Decided.{Passing}
use Rattle.rules.proofs.Laws.Lent.{lent_sized}
use Rattle.answering.specs.Collections as made
use Rattle.device_bytes.specs.Decoding.{slot_at, row_of}
use Rattle.device_bytes.specs.Encoding.{put_slot}
use Rattle.device_calls.specs.Calls.{world_of, slot_in, Taken, taken, collect_left, collect_call}
use Rattle.device_calls.specs.Tests.{first_number, world_number, Tested}
use Rattle.device_calls.proofs.Tests.{first_is, tested}
use Rattle.device_calls.proofs.Tests.{eight, read_slot, past_eighth}

-- what is known of a device that passed the first tests, of its room and of one of its slots
pub record Ready (dev room : List ℕ) (k : ℕ) : Type 0 where
  pub sized : length dev ≡ 288
  pub roomed : room_size ≤ length room
  pub below : k < 8
  pub reads : slot_at k dev ≡ slot_in (row_of dev) k

-- the tests were told the store's length alone, so that any store of this length will do
store_of : ℕ → List ℕ
store_of n = replicate n 0

pub ready : (dev room : List ℕ) (k stored n : ℕ) → n ≡ first_number dev stored (length room) → n ≡ 0 → k < 8 → Ready dev room k
unfolding store_of
ready dev room k stored n e z l =
    let same : stored ≡ length (store_of stored) = sym (length-replicate stored 0) in
    let asked : n ≡ first_number dev (length (store_of stored)) (length room) =
    e ∙ ap (λ (x : ℕ). first_number dev x (length room)) same in
    let t : Tested dev (store_of stored) room = tested dev (store_of stored) room n asked z in
    record {
      sized = t.sized;
      roomed = (lent_sized (world_of dev (store_of stored) room) t.passing.lent).roomed;
      below = l;
      reads = read_slot dev (store_of stored) room k (slot_at k dev) t l refl;
    }

-- ---- the longest answer is a joined read's

command_small : (c : Command) → command_answer_size c ≤ 384
command_small (command.Sw2Hw o) = lit≤ tt
command_small (command.Hw2Sw o) = lit≤ tt
command_small (command.ResizeCq n) = lit≤ tt
command_small (command.QueryQp n) = lit≤ tt
command_small (command.ModifyQp e n) = lit≤ tt

engine_small : (e : EngineRequest) → engine_answer_size e ≤ 384
engine_small (engine.ReadState n) = lit≤ tt
engine_small (engine.ReadNext n) = lit≤ tt
engine_small (engine.ReadAll n) = lit≤ tt
engine_small (engine.Write w s n psn) = lit≤ tt
engine_small (engine.ReadJoined n c e) = lit≤ tt

answer_small : (q : Request) → answer_size q ≤ 384
answer_small (request.Command c) = command_small c
answer_small (request.Engine e) = engine_small e

pub size_small : {t : Status} {m : ℕ} {q : Request} → t ≡ Finished m q → (size : ℕ) → size ≡ answer_size q → size ≤ 384
size_small {q = q} done size e = rw e (answer_small q)

-- ---- the slot that was read

module _ {dev room : List ℕ} {k : ℕ} (r : Ready dev room k) {s : Slot} (read : s ≡ slot_at k dev) where
  is : s ≡ slot_in (row_of dev) k
  is = read ∙ r.reads

  status_is : s.status ≡ status_at k (row_of dev)
  unfolding status_at
  status_is = ap (λ (x : Slot). x.status) is

  module _ (store out : List ℕ) where
    -- what the slot's status decides
    abbrev decided : Taken
    decided = collect_left dev k (collect_on (world_of dev store room) k out (status_at k (row_of dev)))

    pub free_left : s.status ≡ Free → taken 0x84 dev out ≡ decided
    unfolding collect_left
    free_left e =
        ap (collect_left dev k) (made.on_free (world_of dev store room) k out s.status e
        ∙ ap (collect_on (world_of dev store room) k out) status_is)

    pub running_left : {m : ℕ} {q : Request} → s.status ≡ Running m q → taken 0x86 dev out ≡ decided
    unfolding collect_left
    running_left e =
        ap (collect_left dev k) (made.on_running (world_of dev store room) k out s.status e
        ∙ ap (collect_on (world_of dev store room) k out) status_is)

    module _ {m : ℕ} {q : Request} (done : s.status ≡ Finished m q) (size : ℕ) (size_is : size ≡ answer_size q) where
      pub short_left : length out < size → taken 0x83 dev out ≡ decided
      unfolding collect_left
      short_left l =
          ap (collect_left dev k) (made.on_short (world_of dev store room) k out s.status done size size_is l
          ∙ ap (collect_on (world_of dev store room) k out) status_is)

      -- the answer was written, and the slot freed
      pub collected_left : size ≤ length out → (written : List ℕ) → written ≡ splice 0 (answer_of q (room_of k room)) out
          → (f : Slot) → f ≡ freed s → (after : List ℕ) → after ≡ put_slot k f dev → (n : ℕ) → n ≡ size
          → taken (256 * n) after written ≡ decided
      unfolding collect_left
      collected_left l written e f g after put n count =
          let there : slot_in (set (row_of dev) k f) k ≡ f =
          get_or-set_same (row_of dev) k f (slot Free) (omega (arith, eight dev r.sized, r.below)) in
          rw (put, count)
          (ap (λ (x : Slot). taken (256 * size) (put_slot k x dev) written) (sym there)
          ∙ ap (collect_left dev k)
          (made.on_collected (world_of dev store room) k out s.status done size size_is l written e f g
          ∙ ap (collect_on (world_of dev store room) k out) status_is))

-- ---- the tests

module _ (dev store room : List ℕ) (k : ℕ) (out : List ℕ) (n : ℕ) (asked : n ≡ first_number dev (length store) (length room)) where
  pub left_refused : ¬ (n ≡ 0) → taken n dev out ≡ collect_call dev store room k out
  unfolding collect_call collect_left collect_of
  left_refused z = rw (asked ∙ first_is dev store room) (go (bad_lent w) refl (bad_state w) refl)
    where
      w : World
      w = world_of dev store room

      go : (a : Bool) → bad_lent w ≡ a → (b : Bool) → bad_state w ≡ b
          → taken (world_number w) dev out ≡ collect_left dev k (collect_of w k out)
      go true e b f = rw e
      go false e true f = rw (e, f)
      go false e false f = absurd (z (asked ∙ first_is dev store room ∙ rw (e, f)))

  module _ (passed : n ≡ 0) where
    goes : (x : Taken) → x ≡ collect_left dev k (collect_on (world_of dev store room) k out (status_at k (row_of dev)))
        → x ≡ collect_call dev store room k out
    unfolding collect_call collect_of
    goes x e =
        let p : Passing (world_of dev store room) = (tested dev store room n asked passed).passing in
        rw (p.lent, p.possible) e

    pub left_past : 7 < k → taken 0x84 dev out ≡ collect_call dev store room k out
    unfolding collect_left collect_on
    left_past l = goes (taken 0x84 dev out) (rw (past_eighth dev k (tested dev store room n asked passed).sized l))

    pub left_collected : (answer : ℕ) (after written : List ℕ)
        → ((s : List ℕ) → taken answer after written
        ≡ collect_left dev k (collect_on (world_of dev s room) k out (status_at k (row_of dev))))
        → taken answer after written ≡ collect_call dev store room k out
    left_collected answer after written e = goes (taken answer after written) (e store)
