-- The laws of the memory: a write changes one burst of one record, a read copies one burst, and an initialisation makes every record
-- zero; nothing else changes.
use Rattle.std.specs.Prelude.{◌≡◌, Bool, true, false, ltb, length, get_or, take, replicate}
use Rattle.std.proofs.Math.Path.{refl, sym, ap}
use Rattle.std.proofs.Common.{◌∙◌, ap₂, arith, ltb-true, ltb-false, length-append, length-take, length-drop, get_or-take}
use mathlib.Core.List.{List, [], ◌∷◌, ◌++◌}
use Rattle.std.proofs.Math.Logic.{inl, inr}
use Prim.Native.Nat.{ℕ, ◌+◌, ◌-◌, ◌*◌, ◌/◌, ◌≤◌, ◌<◌}
use Rattle.std.proofs.Math.Decide.{dec_lt, dec_le}
use Rattle.std.proofs.Math.ListN.{length-replicate, get_or-replicate}
use Rattle.std.proofs.Math.Seq.{ext_get_or}
use Rattle.words.specs.Choice.{pick}
use Rattle.words.proofs.Choice.{both_left, both_right}
use Rattle.words.proofs.Tails.{part_left, part_right}
use Rattle.words.specs.Parts.{part, splice}
use Rattle.words.proofs.Parts.{length_part, get_or_part, length_splice, splice_in, splice_below, splice_above, part_part}
use Rattle.context.specs.Layout.{is_record, record_at, record_size, bytes_of, in_use}
use Rattle.context.proofs.Records.{record_inside, records_apart}
use Rattle.context.proofs.Tables.{Apart}
use Rattle.context.specs.declared.Logs.{Logs}
use Rattle.context.specs.declared.Record.{Record}
use Rattle.requests.specs.declared.Request.{Request}
use Rattle.request_table.specs.Records.{record_of, records_of, all_records, writes_of}
use Rattle.burst_table.specs.Sizes.{burst_size, slot_count, room_size}
use Rattle.burst_table.specs.Bursts.{joined_size, bursts_of, total_of, offset_of}
use Rattle.burst_table.proofs.Touched.{fit_at}
use Rattle.burst_table.proofs.Laws.{size_bursts, bursts_joined, offset_burst, offset_small, offset_room}
use Rattle.byte_rule.specs.Bytes.{byte_of}
use Rattle.bursts.specs.Moves.{written_part, write_at}
use Rattle.bursts.proofs.Leaves.{length_written_part}
use Rattle.bursts.specs.Bursts.{burst}
use Rattle.bursts.specs.Copies.{copy}
use Rattle.bursts.specs.Room.{room_of, room_copied}
use Rattle.bursts.proofs.Room.{own_copied}
use Rattle.bursts.proofs.Store.{length_write_at, write_at_apart, write_at_record}
use Rattle.records.specs.Memory.{Memory, memory, record_in, joined_in, AllRecords, Fits, place_in}
use Rattle.records.specs.Memory.{burst_place, written, read_out, zeroed, InBurst, Behind}

-- ---- records as they stand

-- a record that the memory has lies in it
record_fits : (g : Logs) (m : Memory) → Fits g m → (X : Record) → is_record g X ≡ true → record_at g X + record_size X ≤ length m.store
record_fits g m fits X valid = omega (arith, record_inside g X valid)

pub length_record_in : (g : Logs) (m : Memory) → Fits g m → (X : Record) → is_record g X ≡ true → length (record_in g m X) ≡ record_size X
unfolding record_in bytes_of
length_record_in g m fits X valid = length_part (record_at g X) (record_size X) m.store (record_fits g m fits X valid)

pub length_joined_in : (g : Logs) (m : Memory) → Fits g m → (Xs : List Record) → AllRecords g Xs
    → length (joined_in g m Xs) ≡ joined_size Xs
length_joined_in g m fits [] all = refl
length_joined_in g m fits (X ∷ Xs) all =
    length-append (record_in g m X) (joined_in g m Xs)
    ∙ ap₂ (λ (i j : ℕ). i + j) (length_record_in g m fits X all.0) (length_joined_in g m fits Xs all.1)

-- the memory has all of some records, as a test and as a statement of each
pub all_records_lem : (g : Logs) (Xs : List Record) → all_records g Xs ≡ true → AllRecords g Xs
all_records_lem g [] e = tt
all_records_lem g (X ∷ Xs) e =
    (both_left (is_record g X) (all_records g Xs) e, all_records_lem g Xs (both_right (is_record g X) (all_records g Xs) e))

part_most : (at k : ℕ) (s : List ℕ) → length (part at k s) ≤ k
unfolding part
part_most at k s = simp (length-take) (omega arith)

part_front : (n at k : ℕ) (s : List ℕ) → at + k ≤ n → part at k (take n s) ≡ part at k s
unfolding part
part_front n at k s l =
    ext_get_or 0 (part at k (take n s)) (part at k s) same
    (λ i y. let y' : i < k = omega (arith, part_most at k (take n s)) in
    get_or_part at k (take n s) i y' ∙ get_or-take n s (at + i) 0 (omega arith) ∙ sym (get_or_part at k s i y'))
  where
    same : length (part at k (take n s)) ≡ length (part at k s)
    same = simp (length-take, length-drop) (omega arith)

-- only the front of the memory with the bytes in use is looked at
pub record_front : (g : Logs) (n : ℕ) (s : List ℕ) (X : Record) → in_use g ≤ n → is_record g X ≡ true
    → record_in g (memory (take n s)) X ≡ record_in g (memory s) X
unfolding record_in bytes_of
record_front g n s X h valid = part_front n (record_at g X) (record_size X) s (omega (arith, record_inside g X valid))

-- ---- one burst of a write

module _ (g : Logs) (m : Memory) (q : Request) (mail : List ℕ) (b : ℕ) (fits : Fits g m) (writes : writes_of q ≡ true)
    (valid : is_record g (record_of q) ≡ true) (more : b < total_of q) where
  start : ℕ
  start = record_at g (record_of q)

  own_fits : start + record_size (record_of q) ≤ length m.store
  unfolding start
  own_fits = record_fits g m fits (record_of q) valid

  burst_fits : burst_place g q b + burst_size ≤ length m.store
  unfolding burst_place start
  burst_fits = omega (arith, own_fits, offset_small q writes b more)

  -- the request's own record has that burst changed
  pub own_written : record_in g (written g m q mail b) (record_of q)
      ≡ burst (byte_of q mail) (get_or (bursts_of q) b 0) (record_in g m (record_of q))
  unfolding record_in bytes_of written burst_place start
  own_written =
      ap (λ (n : ℕ). part (record_at g (record_of q)) (record_size (record_of q)) (write_at q mail (record_at g (record_of q) + n) n m.store))
      (offset_burst q b)
      ∙ write_at_record q mail (record_at g (record_of q)) (record_size (record_of q)) (get_or (bursts_of q) b 0) m.store own_fits
      (omega (arith, offset_small q writes b more))

  -- every other record stays
  pub other_written : (X : Record) → is_record g X ≡ true → ¬ (record_of q ≡ X) → record_in g (written g m q mail b) X ≡ record_in g m X
  unfolding record_in bytes_of written burst_place
  other_written X h n =
      write_at_apart q mail (record_at g (record_of q) + offset_of q b) (offset_of q b) m.store burst_fits
      (record_at g X) (record_size X) (record_fits g m fits X h) (side (records_apart g (record_of q) X valid h n))
    where
      side : Apart (record_at g (record_of q)) (record_size (record_of q)) (record_at g X) (record_size X)
          → Apart (record_at g (record_of q) + offset_of q b) burst_size (record_at g X) (record_size X)
      side (inl y) = inl (omega (arith, offset_small q writes b more))
      side (inr y) = inr (omega arith)

  pub length_written : length (written g m q mail b).store ≡ length m.store
  unfolding written
  length_written = length_write_at q mail (burst_place g q b) (offset_of q b) m.store burst_fits

  -- the memory still has its records
  pub fits_written : Fits g (written g m q mail b)
  fits_written = omega (arith, length_written)

  -- every byte outside the burst stays
  pub outside_written : (i : ℕ) → ¬ InBurst g q b i → get_or (written g m q mail b).store i 0 ≡ get_or m.store i 0
  unfolding written write_at InBurst
  outside_written i n = side (dec_lt i (burst_place g q b)) (dec_lt i (burst_place g q b + burst_size))
    where
      new : List ℕ
      new = written_part q mail (offset_of q b) (part (burst_place g q b) burst_size m.store)

      long : length new ≡ burst_size
      long =
          length_written_part q mail (offset_of q b) (part (burst_place g q b) burst_size m.store)
          ∙ length_part (burst_place g q b) burst_size m.store burst_fits

      new_fits : burst_place g q b + length new ≤ length m.store
      new_fits = omega (arith, long, burst_fits)

      side : Dec (i < burst_place g q b) → Dec (i < burst_place g q b + burst_size)
          → get_or (splice (burst_place g q b) new m.store) i 0 ≡ get_or m.store i 0
      side (yes y) z = splice_below (burst_place g q b) new m.store new_fits i y
      side (no y) (yes z) = absurd (n (omega arith, z))
      side (no y) (no z) = splice_above (burst_place g q b) new m.store new_fits i (omega (arith, long))

  -- no byte behind the records lies in the burst
  pub behind_burst : (i : ℕ) → Behind g i → ¬ InBurst g q b i
  unfolding Behind InBurst burst_place
  behind_burst i h y = omega (arith, record_inside g (record_of q) valid, offset_small q writes b more)

  pub behind_written : (i : ℕ) → Behind g i → get_or (written g m q mail b).store i 0 ≡ get_or m.store i 0
  behind_written i h = outside_written i (behind_burst i h)

pub in_burst? : (g : Logs) (q : Request) (b i : ℕ) → Dec (InBurst g q b i)
unfolding InBurst
in_burst? g q b i = go (dec_le (burst_place g q b) i) (dec_lt i (burst_place g q b + burst_size))
  where
    go : Dec (burst_place g q b ≤ i) → Dec (i < burst_place g q b + burst_size)
        → Dec ((burst_place g q b ≤ i) × (i < burst_place g q b + burst_size))
    go (yes x) (yes y) = yes (x, y)
    go (yes x) (no y) = no (λ z. y z.1)
    go (no x) y = no (λ z. x z.0)

-- ---- one burst of some records, one behind the other: it lies in one of them

module _ (g : Logs) where
  -- burst j lies in the first record, or behind it
  in_first : (X : Record) (j : ℕ) → burst_size * j < record_size X → burst_size * j + burst_size ≤ record_size X
  in_first X j h = omega (arith, size_bursts X)

  behind_first : (X : Record) (j : ℕ) → record_size X ≤ burst_size * j
      → burst_size * j - record_size X ≡ burst_size * (j - record_size X / burst_size)
  behind_first X j h = omega (arith, size_bursts X)

  pub piece_inside : (Xs : List Record) (j : ℕ) → AllRecords g Xs → burst_size * j + burst_size ≤ joined_size Xs
      → place_in g Xs (burst_size * j) + burst_size ≤ in_use g
  unfolding place_in
  piece_inside [] j all l = absurd (omega arith)
  piece_inside (X ∷ Xs) j all l = go (ltb (burst_size * j) (record_size X)) refl (piece_inside Xs (j - record_size X / burst_size) all.1)
    where
      i : ℕ
      i = j - record_size X / burst_size

      go : (b : Bool) → ltb (burst_size * j) (record_size X) ≡ b
          → (burst_size * i + burst_size ≤ joined_size Xs → place_in g Xs (burst_size * i) + burst_size ≤ in_use g)
          → pick b (record_at g X + burst_size * j) (place_in g Xs (burst_size * j - record_size X)) + burst_size ≤ in_use g
      go true e more =
          omega (arith, in_first X j (ltb-true (burst_size * j) (record_size X) e), record_inside g X all.0)
      go false e more =
          let k : record_size X ≤ burst_size * j = ltb-false (burst_size * j) (record_size X) e in
          let s : burst_size * j - record_size X ≡ burst_size * i = behind_first X j k in
          rw s (more (omega (arith, s)))

  module _ (m : Memory) (fits : Fits g m) where
    pub piece : (Xs : List Record) (j : ℕ) → AllRecords g Xs → burst_size * j + burst_size ≤ joined_size Xs
        → part (burst_size * j) burst_size (joined_in g m Xs) ≡ part (place_in g Xs (burst_size * j)) burst_size m.store
    unfolding place_in record_in bytes_of
    piece [] j all l = absurd (omega arith)
    piece (X ∷ Xs) j all l = go (ltb (burst_size * j) (record_size X)) refl (piece Xs (j - record_size X / burst_size) all.1)
      where
        i : ℕ
        i = j - record_size X / burst_size

        long : length (record_in g m X) ≡ record_size X
        long = length_record_in g m fits X all.0

        here : burst_size * j + burst_size ≤ record_size X
            → part (burst_size * j) burst_size (record_in g m X) ≡ part (record_at g X + burst_size * j) burst_size m.store
        here h =
            part_part (record_at g X) (record_size X) (burst_size * j) burst_size m.store (record_fits g m fits X all.0) h

        go : (b : Bool) → ltb (burst_size * j) (record_size X) ≡ b
            → (burst_size * i + burst_size ≤ joined_size Xs
            → part (burst_size * i) burst_size (joined_in g m Xs) ≡ part (place_in g Xs (burst_size * i)) burst_size m.store)
            → part (burst_size * j) burst_size (record_in g m X ++ joined_in g m Xs)
            ≡ part (pick b (record_at g X + burst_size * j) (place_in g Xs (burst_size * j - record_size X))) burst_size m.store
        go true e more =
            let h : burst_size * j + burst_size ≤ record_size X = in_first X j (ltb-true (burst_size * j) (record_size X) e) in
            part_left (burst_size * j) burst_size (record_in g m X) (joined_in g m Xs) (omega (arith, long)) ∙ here h
        go false e more =
            let k : record_size X ≤ burst_size * j = ltb-false (burst_size * j) (record_size X) e in
            let s : burst_size * j - record_size X ≡ burst_size * i = behind_first X j k in
            let t : burst_size * j ≡ length (record_in g m X) + burst_size * i = omega (arith, s, long) in
            let n : burst_size * i + burst_size ≤ joined_size Xs = omega (arith, s) in
            ap (λ (x : ℕ). part x burst_size (record_in g m X ++ joined_in g m Xs)) t
            ∙ part_right (burst_size * i) burst_size (record_in g m X) (joined_in g m Xs)
            ∙ more n ∙ ap (λ (x : ℕ). part (place_in g Xs x) burst_size m.store) (sym s)

-- ---- one burst of a read

module _ (g : Logs) (m : Memory) (q : Request) (b : ℕ) where
  -- it is a burst of the records' bytes
  pub read_burst : read_out g m q b ≡ part (burst_size * get_or (bursts_of q) b 0) burst_size (joined_in g m (records_of q))
  unfolding read_out
  read_burst = ap (λ (n : ℕ). part n burst_size (joined_in g m (records_of q))) (offset_burst q b)

  pub length_read_out : Fits g m → AllRecords g (records_of q) → b < total_of q → length (read_out g m q b) ≡ burst_size
  unfolding read_out
  length_read_out fits all more =
      length_part (offset_of q b) burst_size (joined_in g m (records_of q))
      (omega (arith, length_joined_in g m fits (records_of q) all, fit_at (joined_size (records_of q)) (bursts_of q) b (bursts_joined q) more))

  -- copied to its offset, it is that burst of the slot's part
  pub read_copied : (k : ℕ) (room : List ℕ) → Fits g m → AllRecords g (records_of q) → b < total_of q → k < slot_count
      → room_size ≤ length room
      → room_of k (room_copied k (offset_of q b) (read_out g m q b) room)
      ≡ copy (get_or (bursts_of q) b 0) (joined_in g m (records_of q)) (room_of k room)
  unfolding read_out
  read_copied k room fits all more below roomed =
      own_copied k (offset_of q b) (read_out g m q b) room below roomed
      (omega (arith, length_read_out fits all more, offset_room q b more))
      ∙ ap (λ (n : ℕ). splice n (part n burst_size (joined_in g m (records_of q))) (room_of k room)) (offset_burst q b)

  -- where it stands in the memory
  pub read_place : Fits g m → AllRecords g (records_of q) → b < total_of q
      → read_out g m q b ≡ part (place_in g (records_of q) (offset_of q b)) burst_size m.store
  read_place fits all more =
      read_burst
      ∙ piece g m fits (records_of q) (get_or (bursts_of q) b 0) all (fit_at (joined_size (records_of q)) (bursts_of q) b (bursts_joined q) more)
      ∙ ap (λ (n : ℕ). part (place_in g (records_of q) n) burst_size m.store) (sym (offset_burst q b))

  pub read_inside : AllRecords g (records_of q) → b < total_of q → place_in g (records_of q) (offset_of q b) + burst_size ≤ in_use g
  read_inside all more =
      rw (offset_burst q b)
      (piece_inside g (records_of q) (get_or (bursts_of q) b 0) all
      (fit_at (joined_size (records_of q)) (bursts_of q) b (bursts_joined q) more))

-- ---- an initialisation

module _ (g : Logs) (m : Memory) (fits : Fits g m) where
  zeroes_fit : 0 + length (replicate {A = ℕ} (in_use g) 0) ≤ length m.store
  zeroes_fit = omega (arith, length-replicate {A = ℕ} (in_use g) 0)

  pub length_zeroed : length (zeroed g m).store ≡ length m.store
  unfolding zeroed
  length_zeroed = length_splice 0 (replicate (in_use g) 0) m.store zeroes_fit

  -- the memory still has its records
  pub fits_zeroed : Fits g (zeroed g m)
  fits_zeroed = omega (arith, length_zeroed)

  -- every record is zero
  pub zeroed_record : (X : Record) → is_record g X ≡ true → record_in g (zeroed g m) X ≡ replicate (record_size X) 0
  unfolding record_in bytes_of zeroed
  zeroed_record X valid =
      ext_get_or 0 (part (record_at g X) (record_size X) after) (replicate (record_size X) 0)
      (long ∙ sym (length-replicate {A = ℕ} (record_size X) 0))
      (λ i h. let h' : i < record_size X = omega (arith, long) in
      get_or_part (record_at g X) (record_size X) after i h'
      ∙ splice_in 0 (replicate (in_use g) 0) m.store zeroes_fit (record_at g X + i) (omega arith)
      (omega (arith, length-replicate {A = ℕ} (in_use g) 0, record_inside g X valid))
      ∙ get_or-replicate (in_use g) _ 0 0 (omega (arith, record_inside g X valid))
      ∙ sym (get_or-replicate (record_size X) i 0 0 h'))
    where
      after : List ℕ
      after = splice 0 (replicate (in_use g) 0) m.store

      long : length (part (record_at g X) (record_size X) after) ≡ record_size X
      long = length_part (record_at g X) (record_size X) after (omega (arith, length_zeroed, record_fits g m fits X valid))

  -- every byte behind the records stays
  pub zeroed_behind : (i : ℕ) → Behind g i → get_or (zeroed g m).store i 0 ≡ get_or m.store i 0
  unfolding zeroed Behind
  zeroed_behind i h =
      splice_above 0 (replicate (in_use g) 0) m.store zeroes_fit i (omega (arith, length-replicate {A = ℕ} (in_use g) 0))
