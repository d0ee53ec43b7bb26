-- A device with one slot or the header written anew: what it then decodes to.
use Rattle.std.specs.Prelude.{◌≡◌, refl, Bool, true, false, ◌⊎◌, ℕ, ◌+◌, ◌*◌, ◌^◌, ◌≤◌, ◌<◌, eqb, ltb, length, set, Option, Some, None}
use Rattle.std.proofs.Common.{sym, ◌∙◌, inl, inr, add-zero, arith, lit<, lit≤, ext_get_or}
use Rattle.std.proofs.Math.Path.{ap}
use mathlib.Core.List.{List}
use Rattle.std.proofs.Math.Decide.{ℕ_discrete, dec_lt}
use borrow.Author.Tests.{eq-eqb, le-ltb}
use Rattle.std.proofs.Math.ListN.{get_or, length-set, get_or-eq_default}
use Rattle.std.proofs.Math.Seq.{get_or-set_same, get_or-set_other}
use Rattle.words.specs.Choice.{pick}
use Rattle.words.proofs.Choice.{by_pick}
use Rattle.words.specs.Parts.{part, splice}
use Rattle.words.proofs.Parts.{part_agrees, get_or_part, length_part, length_splice, splice_below, splice_above, part_splice}
use Rattle.words.specs.Words.{le32, le_value, le_bytes}
use Rattle.hcr.specs.Register.{bit}
use Rattle.burst_table.specs.Bursts.{total_of}
use Rattle.requests.specs.declared.Request.TheVariants as request
use Rattle.requests.specs.declared.Request.{Request}
use Rattle.slots.specs.Slots.{Held, slot, advanced_status}
use Rattle.slots.specs.declared.Slot.{Slot}
use Rattle.slots.specs.declared.Status.{Status}
use Rattle.slots.specs.declared.Status.TheVariants.{Free, Running, Finished}
use Rattle.possible.specs.declared.Hca.{Hca}
use Rattle.device_bytes.specs.Decoding.{device_size, slot_place, op_field, request_in, broken, status_held, status_of, slot_at, slots_of}
use Rattle.device_bytes.specs.Decoding.{row_of, hca_of}
use Rattle.device_bytes.specs.Encoding.{slot_bytes, request_bytes, status_bytes, status_code, moved_in, header_bytes, hca_bytes}
use Rattle.device_bytes.specs.Encoding.{put_slot, put_moved, put_header}
use Rattle.device_bytes.proofs.RoundTrip.{slot_fits, slot_round, header_round}
use Rattle.device_bytes.proofs.Walks.{length_slots, get_or_slots}

-- ---- one slot's bytes changed, the others as they were

abbrev Outside : ℕ → ℕ → Type 0
Outside k i = (i < slot_place k) ⊎ (slot_place k + 32 ≤ i)

pub record OneSlot (k : ℕ) (dev after : List ℕ) : Type 0 where
  pub below : k < 8
  pub sized : length dev ≡ 288
  pub same : length after ≡ 288
  pub others : (i : ℕ) → Outside k i → get_or after i 0 ≡ get_or dev i 0

module _ {k : ℕ} {dev after : List ℕ} (one : OneSlot k dev after) where
  outside : (j i : ℕ) → ¬ (j ≡ k) → i < 32 → Outside k (slot_place j + i)
  outside j i n h = go (dec_lt j k)
    where
      go : Dec (j < k) → Outside k (slot_place j + i)
      go (yes y) = inl (omega arith)
      go (no y) = inr (omega arith)

  slot_kept : (j : ℕ) → j < 8 → ¬ (j ≡ k) → slot_at j after ≡ slot_at j dev
  unfolding slot_at
  slot_kept j h n =
      ap (λ (b : List ℕ). slot (status_of b))
      (part_agrees (slot_place j) 32 after dev (omega (arith, one.same)) (omega (arith, one.sized))
      (λ i l. one.others (slot_place j + i) (outside j i n l)))

  slots_changed : slots_of 8 after ≡ set (slots_of 8 dev) k (slot_at k after)
  slots_changed =
      ext_get_or (slot Free) (slots_of 8 after) (set (slots_of 8 dev) k (slot_at k after))
      (length_slots 8 after ∙ sym (length-set (slots_of 8 dev) k (slot_at k after) ∙ length_slots 8 dev))
      (λ j h. let h' : j < 8 = omega (arith, length_slots 8 after) in
      get_or_slots 8 after j h' (lit≤ tt) ∙ each j h' (ℕ_discrete j k))
    where
      each : (j : ℕ) → j < 8 → Dec (j ≡ k) → slot_at j after ≡ get_or (set (slots_of 8 dev) k (slot_at k after)) j (slot Free)
      each j h (yes e) =
          rw e (sym (get_or-set_same (slots_of 8 dev) k (slot_at k after) (slot Free) (omega (arith, length_slots 8 dev, one.below))))
      each j h (no e) =
          slot_kept j h e ∙ sym (get_or-set_other (slots_of 8 dev) k j (slot_at k after) (slot Free) e ∙ get_or_slots 8 dev j h (lit≤ tt))

  byte_kept : (i : ℕ) → i < 32 → get_or after i 0 ≡ get_or dev i 0
  byte_kept i h = one.others i (inl (omega arith))

  word_kept : (i : ℕ) → i + 4 ≤ 32 → le32 i after ≡ le32 i dev
  unfolding le32
  word_kept i h =
      ap le_value (part_agrees i 4 after dev (omega (arith, one.same)) (omega (arith, one.sized)) (λ j l. byte_kept (i + j) (omega arith)))

  pub hca_kept : hca_of after ≡ hca_of dev
  unfolding hca_of
  hca_kept =
      rw (
        byte_kept 0 (lit< tt),
        byte_kept 1 (lit< tt),
        byte_kept 2 (lit< tt),
        byte_kept 3 (lit< tt),
        byte_kept 4 (lit< tt),
        word_kept 8 (lit≤ tt),
        word_kept 12 (lit≤ tt),
      )

  pub row_changed : get_or dev 0 0 ≤ 1 → row_of after ≡ set (row_of dev) k (slot_at k after)
  unfolding row_of
  row_changed h =
      let o : get_or after 0 0 ≤ 1 = omega (arith, byte_kept 0 (lit< tt)) in
      rw (
        eq-eqb (length dev) 288 one.sized,
        eq-eqb (length after) 288 one.same,
        le-ltb 1 (get_or dev 0 0) h,
        le-ltb 1 (get_or after 0 0) o,
      ) slots_changed

-- ---- a slot written whole

pub length_slot_bytes : (s : Status) → length (status_bytes s) ≡ 32
unfolding slot_bytes le_bytes
length_slot_bytes Free = refl
length_slot_bytes (Running m (request.Command c)) = refl
length_slot_bytes (Running m (request.Engine e)) = refl
length_slot_bytes (Finished m (request.Command c)) = refl
length_slot_bytes (Finished m (request.Engine e)) = refl

module _ (k : ℕ) (s : Slot) (dev : List ℕ) (eight : k < 8) (sized : length dev ≡ 288) where
  fits : slot_place k + length (status_bytes s.status) ≤ length dev
  fits = omega (arith, length_slot_bytes s.status, sized)

  pub one_put : OneSlot k dev (put_slot k s dev)
  unfolding put_slot
  one_put = record {
    below = eight;
    sized = sized;
    same = length_splice (slot_place k) (status_bytes s.status) dev fits ∙ sized;
    others = λ i o. away i o;
  }
    where
      away : (i : ℕ) → Outside k i → get_or (splice (slot_place k) (status_bytes s.status) dev) i 0 ≡ get_or dev i 0
      away i (inl h) = splice_below (slot_place k) (status_bytes s.status) dev fits i h
      away i (inr h) = splice_above (slot_place k) (status_bytes s.status) dev fits i (omega (arith, length_slot_bytes s.status))

  slot_put : slot_at k (put_slot k s dev) ≡ slot (status_of (status_bytes s.status))
  unfolding slot_at put_slot
  slot_put =
      ap (λ (n : ℕ). slot (status_of (part (slot_place k) n (splice (slot_place k) (status_bytes s.status) dev))))
      (sym (length_slot_bytes s.status))
      ∙ ap (λ (b : List ℕ). slot (status_of b)) (part_splice (slot_place k) (status_bytes s.status) dev fits)

  pub row_put : get_or dev 0 0 ≤ 1 → slot_fits s.status ≡ true → row_of (put_slot k s dev) ≡ set (row_of dev) k s
  row_put h f = row_changed one_put h ∙ ap (set (row_of dev) k) (slot_put ∙ ap slot (slot_round s.status f))

-- ---- a slot's status and bursts moved

-- a request is read from other bytes than these two
module _ (a b : List ℕ) (la : length a ≡ 32) (lb : length b ≡ 32) (same : (i : ℕ) → ¬ (i ≡ 0) → ¬ (i ≡ 2) → get_or a i 0 ≡ get_or b i 0) where
  word_same : (i : ℕ) → 3 ≤ i → i + 4 ≤ 32 → le32 i a ≡ le32 i b
  unfolding le32
  word_same i h l =
      ap le_value (part_agrees i 4 a b (omega (arith, la)) (omega (arith, lb))
      (λ j m. same (i + j) (λ e. omega arith) (λ e. omega arith)))

  byte_same : (i : ℕ) → 3 ≤ i → get_or a i 0 ≡ get_or b i 0
  byte_same i h = same i (λ e. omega arith) (λ e. omega arith)

  request_same : request_in a ≡ request_in b
  unfolding request_in
  request_same =
      let one : get_or a 1 0 ≡ get_or b 1 0 = same 1 (λ e. omega arith) (λ e. omega arith) in
      rw (
        one,
        byte_same 3 (lit≤ tt),
        byte_same 4 (lit≤ tt),
        byte_same 5 (lit≤ tt),
        byte_same 24 (lit≤ tt),
        word_same 8 (lit≤ tt) (lit≤ tt),
        word_same 12 (lit≤ tt) (lit≤ tt),
        word_same 16 (lit≤ tt) (lit≤ tt),
        word_same 20 (lit≤ tt) (lit≤ tt),
      )

-- the request of a running slot is the one that its bytes name
request_of : Status → Option Request
request_of Free = None
request_of (Running m q) = Some q
request_of (Finished m q) = None

pub running_in : (b : List ℕ) (m : ℕ) (q : Held) → status_of b ≡ Running m q → request_in b ≡ Some q
unfolding status_of request_of
running_in b m q e = start (eqb (get_or b 0 0) 0) refl
  where
    -- only a request that is read can be running
    held : (r : Option Request) (code n : ℕ) → request_of (status_held code n r) ≡ Some q → r ≡ Some q
    held None code n f = f
    held (Some p) code n f = first (eqb code 1) refl
      where
        first : (c : Bool) → eqb code 1 ≡ c → Some p ≡ Some q
        first true g = rw g at f
        first false g = second (eqb code 2) refl
          where
            never : None ≡ Some q → Some p ≡ Some q
            never z = let y : ◌≡◌ {A = ℕ} 0 1 = cc in absurd (omega arith)

            second : (d : Bool) → eqb code 2 ≡ d → Some p ≡ Some q
            second true i = never (rw (g, i) at f)
            second false i = never (rw (g, i) at f)

    start : (c : Bool) → eqb (get_or b 0 0) 0 ≡ c → request_in b ≡ Some q
    start true g =
        let z : Free ≡ Running m q = rw g at e in
        let y : ◌≡◌ {A = ℕ} 0 1 = cc in absurd (omega arith)
    start false g = held (request_in b) (get_or b 0 0) (get_or b 2 0) (ap request_of (rw g at e))

-- a running request one burst further, read back from its status and its bursts moved
advanced_held : (m : ℕ) (q : Held)
    → pick (eqb (status_code (advanced_status (Running m q))) 0) Free
    (status_held (status_code (advanced_status (Running m q))) (moved_in (advanced_status (Running m q))) (Some q))
    ≡ advanced_status (Running m q)
advanced_held m q =
    by_pick (λ (s : Status). pick (eqb (status_code s) 0) Free (status_held (status_code s) (moved_in s) (Some q)) ≡ s)
    (ltb (m + 1) (total_of q)) (Running (m + 1) q) (Finished (total_of q) q) (λ e. refl) (λ e. refl)

module _ (k : ℕ) (s : Slot) (dev : List ℕ) (eight : k < 8) (sized : length dev ≡ 288) where
  -- the two bytes, and no other
  length_moved : length (put_moved k s dev) ≡ 288
  unfolding put_moved
  length_moved = length-set (set dev (slot_place k) (status_code s.status)) (slot_place k + 2) (moved_in s.status)
      ∙ length-set dev (slot_place k) (status_code s.status) ∙ sized

  moved_other : (i : ℕ) → ¬ (i ≡ slot_place k) → ¬ (i ≡ slot_place k + 2) → get_or (put_moved k s dev) i 0 ≡ get_or dev i 0
  unfolding put_moved
  moved_other i n o =
      get_or-set_other (set dev (slot_place k) (status_code s.status)) (slot_place k + 2) i (moved_in s.status) 0 o
      ∙ get_or-set_other dev (slot_place k) i (status_code s.status) 0 n

  moved_code : get_or (put_moved k s dev) (slot_place k) 0 ≡ status_code s.status
  unfolding put_moved
  moved_code =
      get_or-set_other (set dev (slot_place k) (status_code s.status)) (slot_place k + 2) (slot_place k) (moved_in s.status) 0 (λ e. omega arith)
      ∙ get_or-set_same dev (slot_place k) (status_code s.status) 0 (omega (arith, sized))

  moved_count : get_or (put_moved k s dev) (slot_place k + 2) 0 ≡ moved_in s.status
  unfolding put_moved
  moved_count =
      get_or-set_same (set dev (slot_place k) (status_code s.status)) (slot_place k + 2) (moved_in s.status) 0
      (omega (arith, length-set dev (slot_place k) (status_code s.status), sized))

  pub one_moved : OneSlot k dev (put_moved k s dev)
  one_moved = record { below = eight; sized = sized; same = length_moved; others = λ i o. away i o }
    where
      away : (i : ℕ) → Outside k i → get_or (put_moved k s dev) i 0 ≡ get_or dev i 0
      away i (inl h) = moved_other i (λ e. omega arith) (λ e. omega arith)
      away i (inr h) = moved_other i (λ e. omega arith) (λ e. omega arith)

  request_kept : request_in (part (slot_place k) 32 (put_moved k s dev)) ≡ request_in (part (slot_place k) 32 dev)
  request_kept =
      request_same (part (slot_place k) 32 (put_moved k s dev)) (part (slot_place k) 32 dev)
      (length_part (slot_place k) 32 (put_moved k s dev) (omega (arith, length_moved)))
      (length_part (slot_place k) 32 dev (omega (arith, sized)))
      (λ i n o. each i n o (dec_lt i 32))
    where
      each : (i : ℕ) → ¬ (i ≡ 0) → ¬ (i ≡ 2) → Dec (i < 32)
          → get_or (part (slot_place k) 32 (put_moved k s dev)) i 0 ≡ get_or (part (slot_place k) 32 dev) i 0
      each i n o (yes h) =
          get_or_part (slot_place k) 32 (put_moved k s dev) i h
          ∙ moved_other (slot_place k + i) (λ e. n (omega arith)) (λ e. o (omega arith))
          ∙ sym (get_or_part (slot_place k) 32 dev i h)
      each i n o (no h) =
          past (part (slot_place k) 32 (put_moved k s dev)) (length_part (slot_place k) 32 (put_moved k s dev) (omega (arith, length_moved)))
          ∙ sym (past (part (slot_place k) 32 dev) (length_part (slot_place k) 32 dev (omega (arith, sized))))
        where
          past : (l : List ℕ) → length l ≡ 32 → get_or l i 0 ≡ 0
          past l e = get_or-eq_default l 0 (omega (arith, e))

  pub slot_moved_lem : slot_at k (put_moved k s dev)
      ≡ slot (pick (eqb (status_code s.status) 0) Free
      (status_held (status_code s.status) (moved_in s.status) (request_in (part (slot_place k) 32 dev))))
  unfolding slot_at status_of
  slot_moved_lem =
      let e : get_or (part (slot_place k) 32 (put_moved k s dev)) 0 0 ≡ status_code s.status =
      get_or_part (slot_place k) 32 (put_moved k s dev) 0 (lit< tt)
      ∙ ap (λ (i : ℕ). get_or (put_moved k s dev) i 0) (add-zero (slot_place k)) ∙ moved_code in
      let f : get_or (part (slot_place k) 32 (put_moved k s dev)) 2 0 ≡ moved_in s.status =
      get_or_part (slot_place k) 32 (put_moved k s dev) 2 (lit< tt) ∙ moved_count in
      rw (e, f, request_kept)

-- A running slot, one burst further: its other bytes stay.
pub row_moved : (k : ℕ) (dev : List ℕ) (m : ℕ) (q : Held) → k < 8 → length dev ≡ 288 → get_or dev 0 0 ≤ 1
    → (slot_at k dev).status ≡ Running m q
    → row_of (put_moved k (slot (advanced_status (Running m q))) dev) ≡ set (row_of dev) k (slot (advanced_status (Running m q)))
unfolding slot_at
row_moved k dev m q h l o e =
    let s : Slot = slot (advanced_status (Running m q)) in
    let r : request_in (part (slot_place k) 32 dev) ≡ Some q = running_in (part (slot_place k) 32 dev) m q e in
    row_changed (one_moved k s dev h l) o
    ∙ ap (set (row_of dev) k)
    (slot_moved_lem k s dev h l
    ∙ ap (λ (f : Option Request). slot (pick (eqb (status_code s.status) 0) Free (status_held (status_code s.status) (moved_in s.status) f))) r
    ∙ ap slot (advanced_held m q))
