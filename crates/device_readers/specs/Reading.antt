-- What the readers of the row answer, in the definitions' terms.
use Rattle.std.specs.Prelude.{◌≡◌, List, ℕ, ◌≤◌, ◌<◌, length, get_or, replicate}
use Rattle.std.proofs.Common.{eq-eqb, lt-ltb, le-ltb}
use Rattle.slots.specs.Slots.{slot}
use Rattle.slots.specs.declared.Slot.{Slot}
use Rattle.device_bytes.specs.Decoding.{broken, slots_of, row_of}
use Rattle.device_bytes.proofs.Walks.{all_slots}

pub row_broken : (dev : List ℕ) (row : List Slot) → length dev ≡ 288 → 1 < get_or dev 0 0 → row ≡ replicate 8 (slot broken) → row ≡ row_of dev
unfolding row_of
row_broken dev row n h e = rw (eq-eqb (length dev) 288 n, lt-ltb 1 (get_or dev 0 0) h) e

pub row_read : (dev : List ℕ) (row : List Slot) (k : ℕ) → length dev ≡ 288 → get_or dev 0 0 ≤ 1 → row ≡ slots_of k dev → k ≤ 8 → 8 ≤ k
    → row ≡ row_of dev
unfolding row_of
row_read dev row k n h e i j = rw (eq-eqb (length dev) 288 n, le-ltb 1 (get_or dev 0 0) h) (all_slots dev row k e i j)
