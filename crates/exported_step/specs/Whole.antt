-- A step of a request that reads whole records, made on the slot's bytes: what the bytes of such a slot say, and what the step leaves.
use Rattle.std.specs.Prelude.{◌≡◌, refl, Bool, true, false, eqb, length, get_or, set, Option, Some, None}
use Rattle.std.proofs.Common.{sym, ◌∙◌, subst, add-zero, lit<, lit≤}
use Rattle.std.proofs.Math.Path.{ap}
use Rattle.std.proofs.lemmas.Bool.{false≢true}
use mathlib.Core.List.{List}
use Prim.Native.Nat.{ℕ, ◌+◌, ◌*◌, ◌-◌, ◌^◌, ◌≤◌, ◌<◌}
use Rattle.std.proofs.Math.Decide.{dec_lt}
use native.Mathlib.Omega.{arith}
use borrow.Author.Tests.{eqb-true, eq-eqb, ne_eqb, lt-ltb, le-ltb}
use Rattle.words.specs.Choice.{pick, both}
use Rattle.words.specs.Parts.{part}
use Rattle.words.proofs.Parts.{get_or_part, part_part}
use Rattle.words.specs.Words.{le32, le_value}
use Rattle.context.specs.declared.Logs.{Logs}
use Rattle.context.specs.declared.Record.{Record}
use Rattle.requests.specs.declared.Command.TheVariants as command
use Rattle.requests.specs.declared.Request.{Request}
use Rattle.requests.specs.declared.Request.TheVariants as request
use Rattle.commands.specs.Commands.{read_op, command_right}
use Rattle.commands.proofs.Reading.{command_found}
use Rattle.commands.specs.declared.Op.TheVariants as op
use Rattle.engines.specs.Engines.{read_number, engine_right}
use Rattle.engines.proofs.Reading.{engine_found}
use Rattle.engines.specs.declared.EngineNumber.TheVariants as number
use Rattle.slot_requests.specs.Requests.{any_index, on_record, command_in}
use Rattle.request_table.specs.Records.{record_of, records_of, writes_of}
use Rattle.burst_table.specs.Sizes.{burst_size}
use Rattle.burst_table.specs.Bursts.{bursts_of, total_of, offset_of}
use Rattle.bursts.specs.Room.{room_copied}
use Rattle.records.specs.Memory.{memory, AllRecords, joined_in, read_out}
use Rattle.records.specs.Calls.{Moving, qp_read, joined_read}
use Rattle.slots.specs.Slots.{slot, advanced_slot}
use Rattle.slots.specs.declared.Slot.{Slot}
use Rattle.slots.specs.declared.Status.TheVariants.{Running}
use Rattle.possible.specs.declared.Hca.{Hca}
use Rattle.rules.specs.World.{status_at}
use Rattle.rules.specs.Steps.{step_on}
use Rattle.moving.specs.Moves.{moved, burst_moved, read_moved}
use Rattle.device_bytes.specs.Decoding.{slot_place, engine_held, number_held, request_in, status_of, slot_at, row_of}
use Rattle.device_bytes.specs.Encoding.{put_moved}
use Rattle.device_calls.specs.Calls.{world_of, left, step_left}
use Rattle.exported_step.specs.Ready.{Ready, can_move, moved_left}

-- ---- the slot's bytes

-- slot k runs the request of this kind and number, with the op_modifier 0
unfoldable pub runs : ℕ → ℕ → ℕ → List ℕ → Bool
runs kind number k dev =
    both (eqb (get_or dev (slot_place k) 0) 1)
    (both (eqb (get_or dev (slot_place k + 1) 0) kind)
    (both (eqb (get_or dev (slot_place k + 3) 0) 0)
    (both (eqb (get_or dev (slot_place k + 4) 0) number) (eqb (get_or dev (slot_place k + 5) 0) 0))))

abbrev bytes_at : ℕ → List ℕ → List ℕ
bytes_at k dev = part (slot_place k) 32 dev

-- what it says of the slot's own bytes
record Head (kind number : ℕ) (b : List ℕ) : Type 0 where
  status : get_or b 0 0 ≡ 1
  kind_is : get_or b 1 0 ≡ kind
  modifier : get_or b 3 0 ≡ 0
  low : get_or b 4 0 ≡ number
  high : get_or b 5 0 ≡ 0

-- all of five tests hold
five : (a b c d e : Bool) → both a (both b (both c (both d e))) ≡ true
    → (a ≡ true) × (b ≡ true) × (c ≡ true) × (d ≡ true) × (e ≡ true)
five true true true true e t = (refl, refl, refl, refl, t)
five true true true false e t = absurd (false≢true t)
five true true false d e t = absurd (false≢true t)
five true false c d e t = absurd (false≢true t)
five false b c d e t = absurd (false≢true t)

head : {kind number : ℕ} (k : ℕ) (dev : List ℕ) → runs kind number k dev ≡ true → Head kind number (bytes_at k dev)
unfolding runs
head {kind = kind} {number = number} k dev t =
    let all =
    five (eqb (get_or dev (slot_place k) 0) 1) (eqb (get_or dev (slot_place k + 1) 0) kind) (eqb (get_or dev (slot_place k + 3) 0) 0)
    (eqb (get_or dev (slot_place k + 4) 0) number) (eqb (get_or dev (slot_place k + 5) 0) 0) t in
    record {
      status = byte 0 (lit< tt) ∙ ap (λ (i : ℕ). get_or dev i 0) (add-zero (slot_place k)) ∙ eqb-true _ _ all.0;
      kind_is = byte 1 (lit< tt) ∙ eqb-true _ _ all.1;
      modifier = byte 3 (lit< tt) ∙ eqb-true _ _ all.2;
      low = byte 4 (lit< tt) ∙ eqb-true _ _ all.3;
      high = byte 5 (lit< tt) ∙ eqb-true _ _ all.4;
    }
  where
    byte : (i : ℕ) → i < 32 → get_or (bytes_at k dev) i 0 ≡ get_or dev (slot_place k + i) 0
    byte i h = get_or_part (slot_place k) 32 dev i h

-- the request that it has
abbrev request_from : ℕ → ℕ → ℕ → ℕ → ℕ → ℕ → ℕ → Option Request
request_from kind number n c e psn state =
    pick (eqb kind 0) (command_in (number + 256 * 0) 0 n)
    (pick (eqb kind 1) (number_held n c e psn state (read_number (number + 256 * 0))) None)

request_is : {kind number : ℕ} (b : List ℕ) → Head kind number b
    → request_in b ≡ request_from kind number (le32 8 b) (le32 12 b) (le32 16 b) (le32 20 b) (get_or b 24 0)
unfolding request_in
request_is b h = rw (h.kind_is, h.modifier, h.low, h.high)

module _ (n c e psn state : ℕ) (small : n < 2 ^ 32) where
  all_found : request_from 1 6 n c e psn state ≡ Some (qp_read (record { 0 = n }))
  unfolding read_number engine_right
  all_found = ap (engine_held c e) (engine_found any_index number.ReadAll n psn state (rw (lt-ltb n (2 ^ 32) small)))

  joined_found : request_from 1 7 n c e psn state ≡ Some (joined_read (record { 0 = n }) (record { 0 = c }) (record { 0 = e }))
  unfolding read_number engine_right
  joined_found = ap (engine_held c e) (engine_found any_index number.ReadJoined n psn state (rw (lt-ltb n (2 ^ 32) small)))

  query_found : request_from 0 0x22 n c e psn state ≡ Some (request.Command (command.QueryQp (record { 0 = n })))
  unfolding read_op command_right
  query_found = ap on_record (command_found any_index op.QueryQp 0 n (rw (lt-ltb n (2 ^ 32) small)))

-- the slot with that request
runs_it : {kind number : ℕ} (k : ℕ) (dev : List ℕ) → Head kind number (bytes_at k dev) → (q : Request)
    → request_in (bytes_at k dev) ≡ Some q → slot_at k dev ≡ slot (Running (get_or dev (slot_place k + 2) 0) q)
unfolding slot_at status_of
runs_it k dev h q e = rw (h.status, e, get_or_part (slot_place k) 32 dev 2 (lit< tt))

-- ---- two requests that read the same

record Alike (p q : Request) : Type 0 where
  reads : writes_of p ≡ false
  record_is : record_of p ≡ record_of q
  records_are : records_of p ≡ records_of q
  bursts_are : bursts_of p ≡ bursts_of q

module _ {p q : Request} (l : Alike p q) (g : Logs) (store room : List ℕ) (k m : ℕ) where
  alike_moving : Moving g store room k p m → Moving g store room k q m
  alike_moving x = record {
    stored = record { ranges = x.stored.ranges; valid = rw l.record_is at x.stored.valid; fits = x.stored.fits };
    all = subst (AllRecords g) l.records_are x.all;
    more = subst (λ (bs : List ℕ). m < length bs) l.bursts_are x.more;
    below = x.below;
    roomed = x.roomed;
  }

  alike_copied : room_copied k (offset_of q m) (read_out g (memory store) q m) room
      ≡ room_copied k (offset_of p m) (read_out g (memory store) p m) room
  unfolding read_out
  alike_copied = λ i. copied (sym l.bursts_are i) (sym l.records_are i)
    where
      copied : List ℕ → List Record → List ℕ
      copied bs Xs =
          room_copied k (get_or bs m 0 * burst_size) (part (get_or bs m 0 * burst_size) burst_size (joined_in g (memory store) Xs)) room

-- ---- a burst counted

-- slot k of the device with burst m of `total` moved; the last burst finishes the request
unfoldable pub counted : ℕ → ℕ → ℕ → List ℕ → List ℕ
counted k m total dev = set (set dev (slot_place k) (pick (eqb (total - m - 1) 0) 2 1)) (slot_place k + 2) (m + 1)

module _ (k m total : ℕ) (q : Request) (dev : List ℕ) (totals : total_of q ≡ total) (more : m < total) where
  counted_put : counted k m total dev ≡ put_moved k (advanced_slot (slot (Running m q))).slot dev
  unfolding counted put_moved
  counted_put = go (dec_lt (m + 1) total)
    where
      go : Dec (m + 1 < total) → counted k m total dev ≡ put_moved k (advanced_slot (slot (Running m q))).slot dev
      go (yes y) = rw (totals, lt-ltb (m + 1) total y, ne_eqb (total - m - 1) 0 (λ z. omega arith))
      go (no y) =
          let last : total ≡ m + 1 = omega arith in
          rw (totals, le-ltb (m + 1) total (omega arith), eq-eqb (total - m - 1) 0 (omega arith), last)

  counted_left : total - m - 1 ≡ (advanced_slot (slot (Running m q))).left
  counted_left = go (dec_lt (m + 1) total)
    where
      go : Dec (m + 1 < total) → total - m - 1 ≡ (advanced_slot (slot (Running m q))).left
      go (yes y) = rw (totals, lt-ltb (m + 1) total y) (omega arith)
      go (no y) = rw (totals, le-ltb (m + 1) total (omega arith)) (omega arith)

-- ---- the step

-- slot k of a device that passed the first tests runs a request that reads what q reads, and has moved m bursts
pub record Reading (h : Hca) (dev store room : List ℕ) (k m : ℕ) (q : Request) : Type 0 where
  pub ready : Ready h dev store room k
  request : Request
  held : slot_at k dev ≡ slot (Running m request)
  alike : Alike request q

module _ {h : Hca} {dev store room : List ℕ} {k m : ℕ} {q : Request} (x : Reading h dev store room k m q) where
  status_held_lem : (slot_at k dev).status ≡ Running m x.request
  status_held_lem = ap (λ (s : Slot). s.status) x.held

  pub reading_moves : Moving h.logs store room k q m
  reading_moves = alike_moving x.alike h.logs store room k m (can_move x.ready refl status_held_lem)

  pub reading_asks : ((k < 8) × (length dev ≡ 288)) × (m < total_of q)
  reading_asks = ((x.ready.below, x.ready.passed.sized), reading_moves.more)

  -- its burst copied and counted
  pub reading_left : (total : ℕ) → total_of q ≡ total → (room_out after : List ℕ) (answer : ℕ)
      → room_out ≡ room_copied k (offset_of q m) (read_out h.logs (memory store) q m) room → after ≡ counted k m total dev
      → answer ≡ 256 * (total - m - 1)
      → left answer after store room_out ≡ step_left dev k (step_on (world_of dev store room) k (status_at k (row_of dev)))
  reading_left total t room_out after answer copied put count =
      let totals : total_of x.request ≡ total = ap length x.alike.bursts_are ∙ t in
      let more : m < total = rw t at reading_moves.more in
      let burst : moved store room_out ≡ burst_moved h store room k x.request m =
      read_moved h store room k x.request m false (sym x.alike.reads) room_out refl
      (copied ∙ alike_copied x.alike h.logs store room k m) in
      rw count
      (moved_left x.ready refl store room_out after (advanced_slot (slot_at k dev)) (total - m - 1) status_held_lem burst refl
      (put ∙ counted_put k m total x.request dev totals more ∙ ap (λ (s : Slot). put_moved k (advanced_slot s).slot dev) (sym x.held))
      (counted_left k m total x.request dev totals more ∙ ap (λ (s : Slot). (advanced_slot s).left) (sym x.held)))

-- ---- the three requests, by the tests of the code

module _ {h : Hca} {dev store room : List ℕ} {k : ℕ} (r : Ready h dev store room k) where
  word : (i : ℕ) → i + 4 ≤ 32 → le32 i (bytes_at k dev) ≡ le32 (slot_place k + i) dev
  unfolding le32
  word i f = ap le_value (part_part (slot_place k) 32 i 4 dev (omega (arith, r.below, r.passed.sized)) f)

  -- the bytes give a request that reads what q reads
  reading : (kind number : ℕ) (p : Request) {q : Request} {t : Bool} → t ≡ runs kind number k dev → t ≡ true
      → request_from kind number (le32 (slot_place k + 8) dev) (le32 (slot_place k + 12) dev) (le32 (slot_place k + 16) dev)
      (le32 20 (bytes_at k dev)) (get_or (bytes_at k dev) 24 0) ≡ Some p
      → Alike p q → Reading h dev store room k (get_or dev (slot_place k + 2) 0) q
  reading kind number p told holds given same =
      let top : Head kind number (bytes_at k dev) = head k dev (sym told ∙ holds) in
      record {
        ready = r;
        request = p;
        held =
            runs_it k dev top p
            (request_is (bytes_at k dev) top ∙ rw (word 8 (lit≤ tt), word 12 (lit≤ tt), word 16 (lit≤ tt)) given);
        alike = same;
      }

  module _ {n : ℕ} (n-is : n ≡ le32 (slot_place k + 8) dev) (small : n < 2 ^ 32) where
    pub all_reading : {t : Bool} → t ≡ runs 1 6 k dev → t ≡ true
        → Reading h dev store room k (get_or dev (slot_place k + 2) 0) (qp_read (record { 0 = n }))
    all_reading told holds =
        reading 1 6 (qp_read (record { 0 = n })) told holds (rw (← n-is) (all_found n _ _ _ _ small))
        record { reads = refl; record_is = refl; records_are = refl; bursts_are = refl }

    pub query_reading : {t : Bool} → t ≡ runs 0 0x22 k dev → t ≡ true
        → Reading h dev store room k (get_or dev (slot_place k + 2) 0) (qp_read (record { 0 = n }))
    query_reading told holds =
        reading 0 0x22 (request.Command (command.QueryQp (record { 0 = n }))) told holds (rw (← n-is) (query_found n 0 0 0 0 small))
        record { reads = refl; record_is = refl; records_are = refl; bursts_are = refl }

    pub joined_reading : {c e : ℕ} {t : Bool} → c ≡ le32 (slot_place k + 12) dev → e ≡ le32 (slot_place k + 16) dev → t ≡ runs 1 7 k dev
        → t ≡ true
        → Reading h dev store room k (get_or dev (slot_place k + 2) 0) (joined_read (record { 0 = n }) (record { 0 = c }) (record { 0 = e }))
    joined_reading {c = c} {e = e} c-is e-is told holds =
        reading 1 7 (joined_read (record { 0 = n }) (record { 0 = c }) (record { 0 = e })) told holds (rw (← n-is, ← c-is, ← e-is) (joined_found n c e _ _ small))
        record { reads = refl; record_is = refl; records_are = refl; bursts_are = refl }
