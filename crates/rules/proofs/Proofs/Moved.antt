-- One burst: what it makes of memory, room and slot, by the laws of the memory and of the room.
use Rattle.std.specs.Prelude.{◌≡◌, refl, Bool, true, false, List, [], ◌∷◌, ℕ, suc, ◌+◌, ◌*◌, ◌/◌, ◌≤◌, ◌<◌, ltb, length, get_or, drop}
use Rattle.std.proofs.Common.{sym, ◌∙◌, ap₂, arith, ltb-true, ltb-false, drop_of_length-le, get_or-set_same, drop-cons}
use Rattle.std.proofs.Math.Path.{ap}
use Rattle.words.specs.Choice.{pick}
use Rattle.words.proofs.Choice.{by_pick}
use Rattle.words.specs.Parts.{splice}
use Rattle.context.specs.Layout.{is_record}
use Rattle.context.specs.declared.Record.{Record}
use Rattle.requests.specs.declared.Request.{Request}
use Rattle.request_table.specs.Records.{record_of, records_of, writes_of}
use Rattle.burst_table.specs.Bursts.{bursts_of, total_of, offset_of}
use Rattle.burst_table.specs.Sizes.{burst_size, slot_count, slot_room}
use Rattle.burst_table.proofs.Laws.{total_bursts, offset_burst, offset_room}
use Rattle.byte_rule.specs.Bytes.{byte_of}
use Rattle.bursts.specs.Bursts.{burst}
use Rattle.bursts.specs.Copies.{copy}
use Rattle.bursts.specs.Room.{room_of, front_of, room_copied}
use Rattle.bursts.proofs.Room.{length_copied, own_copied, other_copied, other_front_copied, outside_copied}
use Rattle.records.specs.Memory.{Memory, record_in, joined_in, AllRecords, Fits, written, read_out, InBurst, Behind}
use Rattle.records.specs.Laws.{all_records_lem, own_written, other_written, length_written}
use Rattle.records.specs.Laws.{outside_written, behind_written, read_burst, length_read_out}
use Rattle.slots.specs.Slots.{slot, advanced, advanced_status}
use Rattle.slots.specs.declared.Slot.{Slot}
use Rattle.slots.specs.declared.Status.{Status}
use Rattle.slots.specs.declared.Status.TheVariants.{Free, Running, Finished}
use Rattle.rules.specs.World.{World, status_at}
use Rattle.rules.specs.Steps.{memory_moved, room_moved, slot_moved, world_moved}
use Rattle.rules.proofs.Laws.Lent.{Sized, lent_sized, open_fits, Runs, running, in_row}
use Rattle.rules.specs.Laws.Outcomes.{Stepping}

no_free : (q : Request) (m : ℕ) (s : Status) → s ≡ Running m q → ¬ (s ≡ Free)
no_free q m s e f = let z : ◌≡◌ {A = ℕ} 0 1 = cc in omega arith

module _ (w : World) (k : ℕ) (q : Request) (m : ℕ) (s : Stepping w k q m) where
  pub step_sized : Sized w
  step_sized = lent_sized w s.lent

  pub step_fits : Fits w.hca.logs w.memory
  step_fits = open_fits w s.lent s.possible s.opened

  pub step_runs : Runs w q m
  step_runs = running w s.possible s.opened k q m s.now

  pub step_slot : k < slot_count
  step_slot = in_row w step_sized k (no_free q m (status_at k w.row) s.now)

  pub step_all : AllRecords w.hca.logs (records_of q)
  step_all = all_records_lem w.hca.logs (records_of q) step_runs.all

  -- ---- the slot

  slot_next : status_at k (world_moved w k q m).row ≡ advanced_status (Running m q)
  unfolding world_moved slot_moved status_at
  slot_next =
      ap (λ (x : Slot). x.status)
      (get_or-set_same w.row k (advanced (get_or w.row k (slot Free))) (slot Free) (omega (arith, step_sized.rowed, step_slot)))
      ∙ ap advanced_status s.now

  -- it runs with one burst more, or is finished with all
  pub slot_moved_lem : status_at k (world_moved w k q m).row ≡ pick (ltb (m + 1) (total_of q)) (Running (m + 1) q) (Finished (total_of q) q)
  slot_moved_lem = slot_next

  pub slot_more : m + 1 < total_of q → status_at k (world_moved w k q m).row ≡ Running (m + 1) q
  slot_more h =
      slot_next
      ∙ by_pick (λ (x : Status). x ≡ Running (m + 1) q) (ltb (m + 1) (total_of q)) _ _ (λ _. refl)
      (λ e. absurd (omega (arith, ltb-false (m + 1) (total_of q) e)))

  pub slot_last : total_of q ≤ m + 1 → status_at k (world_moved w k q m).row ≡ Finished (total_of q) q
  slot_last h =
      slot_next
      ∙ by_pick (λ (x : Status). x ≡ Finished (total_of q) q) (ltb (m + 1) (total_of q)) _ _
      (λ e. absurd (omega (arith, ltb-true (m + 1) (total_of q) e))) (λ _. refl)

  -- the bursts from the m-th on are this one and those behind it, of which the last has none
  pub bursts_rest : drop m (bursts_of q) ≡ get_or (bursts_of q) m 0 ∷ drop (suc m) (bursts_of q)
  bursts_rest = drop-cons (bursts_of q) m 0 (omega (arith, total_bursts q, step_runs.more))

  pub bursts_none : total_of q ≤ m + 1 → drop (suc m) (bursts_of q) ≡ []
  bursts_none h = drop_of_length-le (bursts_of q) {i = suc m} (omega (arith, total_bursts q))

  -- ---- a writer

  pub write_memory : writes_of q ≡ true → (world_moved w k q m).memory ≡ written w.hca.logs w.memory q (front_of k q w.room) m
  unfolding world_moved memory_moved
  write_memory wr = ap (λ (b : Bool). pick b (written w.hca.logs w.memory q (front_of k q w.room) m) w.memory) wr

  pub write_room : writes_of q ≡ true → (world_moved w k q m).room ≡ w.room
  unfolding world_moved room_moved
  write_room wr =
      ap (λ (b : Bool). pick b w.room (room_copied k (offset_of q m) (read_out w.hca.logs w.memory q m) w.room)) wr

  pub write_own : writes_of q ≡ true → record_in w.hca.logs (world_moved w k q m).memory (record_of q)
      ≡ burst (byte_of q (front_of k q w.room)) (get_or (bursts_of q) m 0) (record_in w.hca.logs w.memory (record_of q))
  write_own wr =
      ap (λ (x : Memory). record_in w.hca.logs x (record_of q)) (write_memory wr)
      ∙ own_written w.hca.logs w.memory q (front_of k q w.room) m step_fits wr step_runs.valid step_runs.more

  -- ---- a reader

  pub read_memory : writes_of q ≡ false → (world_moved w k q m).memory ≡ w.memory
  unfolding world_moved memory_moved
  read_memory rd = ap (λ (b : Bool). pick b (written w.hca.logs w.memory q (front_of k q w.room) m) w.memory) rd

  pub read_room : writes_of q ≡ false
      → (world_moved w k q m).room ≡ room_copied k (offset_of q m) (read_out w.hca.logs w.memory q m) w.room
  unfolding world_moved room_moved
  read_room rd =
      ap (λ (b : Bool). pick b w.room (room_copied k (offset_of q m) (read_out w.hca.logs w.memory q m) w.room)) rd

  burst_long : length (read_out w.hca.logs w.memory q m) ≡ burst_size
  burst_long = length_read_out w.hca.logs w.memory q m step_fits step_all step_runs.more

  pub in_part : offset_of q m + length (read_out w.hca.logs w.memory q m) ≤ slot_room
  in_part = omega (arith, burst_long, offset_room q m step_runs.more)

  -- the slot's part has that burst of the request's records
  pub read_own_lem : writes_of q ≡ false → room_of k (world_moved w k q m).room
      ≡ copy (get_or (bursts_of q) m 0) (joined_in w.hca.logs w.memory (records_of q)) (room_of k w.room)
  read_own_lem rd =
      ap (room_of k) (read_room rd)
      ∙ own_copied k (offset_of q m) (read_out w.hca.logs w.memory q m) w.room step_slot step_sized.roomed in_part
      ∙ ap₂ (λ (o : ℕ) (ys : List ℕ). splice o ys (room_of k w.room)) (offset_burst q m) (read_burst w.hca.logs w.memory q m)

  pub read_others : writes_of q ≡ false → (i : ℕ) → i < slot_count → ¬ (i ≡ k) → room_of i (world_moved w k q m).room ≡ room_of i w.room
  read_others rd i h n =
      ap (room_of i) (read_room rd)
      ∙ other_copied k (offset_of q m) (read_out w.hca.logs w.memory q m) w.room step_slot step_sized.roomed in_part i h n

  pub read_fronts : writes_of q ≡ false → (i : ℕ) (r : Request) → i < slot_count → ¬ (i ≡ k)
      → front_of i r (world_moved w k q m).room ≡ front_of i r w.room
  read_fronts rd i r h n =
      ap (front_of i r) (read_room rd)
      ∙ other_front_copied k (offset_of q m) (read_out w.hca.logs w.memory q m) w.room step_slot step_sized.roomed in_part i r
      h n

  -- ---- what stays, of either

  -- a record that the request does not write
  pub other_stays : (X : Record) → is_record w.hca.logs X ≡ true → (writes_of q ≡ true → ¬ (record_of q ≡ X))
      → record_in w.hca.logs (world_moved w k q m).memory X ≡ record_in w.hca.logs w.memory X
  other_stays X v n = go (writes_of q) refl
    where
      go : (b : Bool) → writes_of q ≡ b
          → record_in w.hca.logs (world_moved w k q m).memory X ≡ record_in w.hca.logs w.memory X
      go true wr =
          ap (λ (x : Memory). record_in w.hca.logs x X) (write_memory wr)
          ∙ other_written w.hca.logs w.memory q (front_of k q w.room) m step_fits wr step_runs.valid step_runs.more X v
          (n wr)
      go false rd = ap (λ (x : Memory). record_in w.hca.logs x X) (read_memory rd)

  -- a byte of the store outside the burst that a write makes, and one behind the records
  pub outside_stays : (i : ℕ) → (writes_of q ≡ true → ¬ InBurst w.hca.logs q m i)
      → get_or (world_moved w k q m).memory.store i 0 ≡ get_or w.memory.store i 0
  outside_stays i n = go (writes_of q) refl
    where
      go : (b : Bool) → writes_of q ≡ b → get_or (world_moved w k q m).memory.store i 0 ≡ get_or w.memory.store i 0
      go true wr =
          ap (λ (x : Memory). get_or x.store i 0) (write_memory wr)
          ∙ outside_written w.hca.logs w.memory q (front_of k q w.room) m step_fits wr step_runs.valid step_runs.more i
          (n wr)
      go false rd = ap (λ (x : Memory). get_or x.store i 0) (read_memory rd)

  pub behind_stays : (i : ℕ) → Behind w.hca.logs i → get_or (world_moved w k q m).memory.store i 0 ≡ get_or w.memory.store i 0
  behind_stays i h = go (writes_of q) refl
    where
      go : (b : Bool) → writes_of q ≡ b → get_or (world_moved w k q m).memory.store i 0 ≡ get_or w.memory.store i 0
      go true wr =
          ap (λ (x : Memory). get_or x.store i 0) (write_memory wr)
          ∙ behind_written w.hca.logs w.memory q (front_of k q w.room) m step_fits wr step_runs.valid step_runs.more i h
      go false rd = ap (λ (x : Memory). get_or x.store i 0) (read_memory rd)

  -- a byte of the room outside the slot's part
  pub room_stays : (i : ℕ) → ¬ (i / slot_room ≡ k) → get_or (world_moved w k q m).room i 0 ≡ get_or w.room i 0
  room_stays i n = go (writes_of q) refl
    where
      go : (b : Bool) → writes_of q ≡ b → get_or (world_moved w k q m).room i 0 ≡ get_or w.room i 0
      go true wr = ap (λ (r : List ℕ). get_or r i 0) (write_room wr)
      go false rd =
          ap (λ (r : List ℕ). get_or r i 0) (read_room rd)
          ∙ outside_copied k (offset_of q m) (read_out w.hca.logs w.memory q m) w.room step_slot step_sized.roomed in_part i n

  -- the lengths
  pub moved_store : length (world_moved w k q m).memory.store ≡ length w.memory.store
  moved_store = go (writes_of q) refl
    where
      go : (b : Bool) → writes_of q ≡ b → length (world_moved w k q m).memory.store ≡ length w.memory.store
      go true wr =
          ap (λ (x : Memory). length x.store) (write_memory wr)
          ∙ length_written w.hca.logs w.memory q (front_of k q w.room) m step_fits wr step_runs.valid step_runs.more
      go false rd = ap (λ (x : Memory). length x.store) (read_memory rd)

  pub moved_room : length (world_moved w k q m).room ≡ length w.room
  moved_room = go (writes_of q) refl
    where
      go : (b : Bool) → writes_of q ≡ b → length (world_moved w k q m).room ≡ length w.room
      go true wr = ap length (write_room wr)
      go false rd =
          ap length (read_room rd)
          ∙ length_copied k (offset_of q m) (read_out w.hca.logs w.memory q m) w.room step_slot step_sized.roomed in_part
