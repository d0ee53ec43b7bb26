-- Laws about the definitions of specs/Tests.antt.
use Rattle.std.specs.Prelude.{◌≡◌, refl, Bool, true, false, List, ℕ, ◌<◌, ltb, length, get_or, replicate}
use Rattle.std.proofs.Common.{sym, ◌∙◌, ap, arith, eq-eqb, ne_eqb}
use Rattle.std.proofs.Math.Decide.{ℕ_discrete}
use Rattle.std.proofs.Math.ListN.{get_or-eq_default}
use Rattle.words.specs.Choice.{pick}
use Rattle.slots.specs.Slots.{slot}
use Rattle.slots.specs.declared.Slot.{Slot}
use Rattle.slots.specs.declared.Status.TheVariants.{Free}
use Rattle.possible.specs.Possible.{impossible}
use Rattle.possible.specs.declared.Hca.{Hca}
use Rattle.rules.specs.World.{World, status_at, bad_row, bad_lent, bad_state}
use Rattle.rules.specs.Laws.Decided.{Passing}
use Rattle.lengths.proofs.Lengths.{lengths_lent}
use Rattle.lengths.specs.Lengths.{lengths_wrong}
use Rattle.device_bytes.specs.Decoding.{slot_at, slots_of, broken, row_of, hca_of}
use Rattle.device_bytes.proofs.Walks.{length_slots}
use Rattle.device_calls.specs.Calls.{world_of, slot_in}
use Rattle.device_calls.proofs.Decodes.{lent_device, flag_right, slot_is}
use Rattle.device_calls.specs.Tests.{Tested, first_number, world_number}

-- ---- as the code makes them

pub first_sized : (dev : List ℕ) (store room : ℕ) → ¬ (length dev ≡ 288) → 0x83 ≡ first_number dev store room
unfolding first_number
first_sized dev store room n = rw (ne_eqb (length dev) 288 n)

module _ (dev : List ℕ) (store room : ℕ) (h : Hca) (sized : length dev ≡ 288) (is : h ≡ hca_of dev) (a : Bool)
    (asked : a ≡ lengths_wrong h store room) where
  told : lengths_wrong (hca_of dev) store room ≡ a
  told = ap (λ (x : Hca). lengths_wrong x store room) (sym is) ∙ sym asked

  pub first_lengths : a ≡ true → 0x83 ≡ first_number dev store room
  unfolding first_number
  first_lengths e = rw (eq-eqb (length dev) 288 sized, told, e)

  module _ (b : Bool) (judged : b ≡ impossible h (row_of dev)) (passed : a ≡ false) where
    state : impossible (hca_of dev) (row_of dev) ≡ b
    state = ap (λ (x : Hca). impossible x (row_of dev)) (sym is) ∙ sym judged

    pub first_impossible : b ≡ true → 0x87 ≡ first_number dev store room
    unfolding first_number
    first_impossible e = rw (eq-eqb (length dev) 288 sized, told, passed, state, e)

    pub first_passed : b ≡ false → 0 ≡ first_number dev store room
    unfolding first_number
    first_passed e = rw (eq-eqb (length dev) 288 sized, told, passed, state, e)

-- a device that passed them has its length
pub passed_sized : (dev : List ℕ) (store room n : ℕ) → n ≡ first_number dev store room → n ≡ 0 → length dev ≡ 288
unfolding first_number
passed_sized dev store room n e z = go (ℕ_discrete (length dev) 288)
  where
    go : Dec (length dev ≡ 288) → length dev ≡ 288
    go (yes l) = l
    go (no m) = let f : ◌≡◌ {A = ℕ} 0 0x83 = sym z ∙ e ∙ rw (ne_eqb (length dev) 288 m) in absurd (omega arith)

-- ---- what they say of the world

-- a device of 288 bytes has eight slots, whatever they hold
pub eight : (dev : List ℕ) → length dev ≡ 288 → length (row_of dev) ≡ 8
unfolding row_of
eight dev l = rw (eq-eqb (length dev) 288 l) (go (ltb 1 (get_or dev 0 0)))
  where
    go : (b : Bool) → length (pick b (replicate 8 (slot broken)) (slots_of 8 dev)) ≡ 8
    go true = refl
    go false = length_slots 8 dev

-- and one of another length has none
pub other_length : (dev store room : List ℕ) → ¬ (length dev ≡ 288) → bad_lent (world_of dev store room) ≡ true
unfolding bad_lent bad_row row_of
other_length dev store room n = rw (ne_eqb (length dev) 288 n)

module _ (dev store room : List ℕ) where
  pub first_is : first_number dev (length store) (length room) ≡ world_number (world_of dev store room)
  unfolding first_number bad_state
  first_is = go (ℕ_discrete (length dev) 288)
    where
      go : Dec (length dev ≡ 288) → first_number dev (length store) (length room) ≡ world_number (world_of dev store room)
      go (yes l) = rw (eq-eqb (length dev) 288 l, lengths_lent (hca_of dev) (row_of dev) store room (eight dev l))
      go (no n) = rw (ne_eqb (length dev) 288 n, other_length dev store room n)

  passes : world_number (world_of dev store room) ≡ 0 → Passing (world_of dev store room)
  passes e = go (bad_lent (world_of dev store room)) refl (bad_state (world_of dev store room)) refl
    where
      go : (a : Bool) → bad_lent (world_of dev store room) ≡ a → (b : Bool) → bad_state (world_of dev store room) ≡ b
          → Passing (world_of dev store room)
      go true f b g = let z : ◌≡◌ {A = ℕ} 0x83 0 = rw f at e in absurd (omega arith)
      go false f true g = let z : ◌≡◌ {A = ℕ} 0x87 0 = rw (f, g) at e in absurd (omega arith)
      go false f false g = record { lent = f; possible = g }

  pub tested : (n : ℕ) → n ≡ first_number dev (length store) (length room) → n ≡ 0 → Tested dev store room
  tested n e z =
      let p : Passing (world_of dev store room) = passes (sym first_is ∙ sym e ∙ z) in
      record { sized = lent_device dev store room p.lent; passing = p }

-- a slot of a device that passed them
pub read_slot : (dev store room : List ℕ) (k : ℕ) (s : Slot) → Tested dev store room → k < 8 → s ≡ slot_at k dev
    → s ≡ slot_in (row_of dev) k
read_slot dev store room k s t l e =
    e ∙ sym (slot_is dev t.sized (flag_right dev store room t.sized t.passing.possible) k l)

-- a slot past the eighth is free
pub past_eighth : (dev : List ℕ) (k : ℕ) → length dev ≡ 288 → 7 < k → status_at k (row_of dev) ≡ Free
unfolding status_at
past_eighth dev k l h = ap (λ (s : Slot). s.status) (get_or-eq_default (row_of dev) (slot Free) {n = k} (omega (arith, eight dev l)))
