-- Laws about the definitions of specs/Room.antt.
use Rattle.std.specs.Prelude.{◌≡◌, List, ◌++◌, ◌⊎◌, ℕ, ◌+◌, ◌/◌, ◌≤◌, ◌<◌, take}
use Rattle.std.proofs.Math.Path.{sym, ap}
use Rattle.std.proofs.Common.{◌∙◌, append_assoc, add-zero, arith, length-append}
use Rattle.std.proofs.Math.Logic.{inl, inr}
use Rattle.std.proofs.Math.Decide.{dec_lt}
use Rattle.std.proofs.Math.ListN.{length, get_or, get_or-append}
use Rattle.std.proofs.lemmas.List.{take-append-le, drop-append-le}
use Rattle.words.specs.Parts.{part, splice}
use Rattle.words.proofs.Parts.{length_part, length_splice, splice_below, splice_above}
use Rattle.words.proofs.Parts.{splice_apart, splice_inside, part_part, part_splice, part_agrees}
use Rattle.requests.specs.declared.Request.{Request}
use Rattle.mailboxes.specs.Mailboxes.{need_of}
use Rattle.burst_table.specs.Sizes.{slot_count, slot_room, room_size, slot_start}
use Rattle.burst_table.proofs.Laws.{need_small}
use Rattle.bursts.specs.Room.{front_of, room_copied, room_filled, room_of}

-- ---- a list and its tail

part_tail : (at n : ℕ) (l t : List ℕ) → at + n ≤ length l → part at n (l ++ t) ≡ part at n l
part_tail at n l t h =
    part_agrees at n (l ++ t) l (omega (arith, length-append l t)) h (λ i k. get_or-append l t 0 (at + i) (omega arith))

splice_tail : (at : ℕ) (ys l t : List ℕ) → at + length ys ≤ length l → splice at ys (l ++ t) ≡ splice at ys l ++ t
unfolding splice
splice_tail at ys l t h =
    let k : at ≤ length l = omega arith in
    rw (take-append-le at l t, drop-append-le (at + length ys) l t, append_assoc (take at l), append_assoc ys)

-- ---- one part

module _ (k : ℕ) (room : List ℕ) (below : k < slot_count) (roomed : room_size ≤ length room) where
  part_inside : slot_start k + slot_room ≤ length room
  part_inside = omega arith

  pub length_room : length (room_of k room) ≡ slot_room
  unfolding room_of
  length_room = length_part (slot_start k) slot_room room part_inside

  pub length_front : (q : Request) → length (front_of k q room) ≡ need_of q
  unfolding front_of
  length_front q = length_part (slot_start k) (need_of q) room (omega (arith, need_small q))

  -- the front is the front of the part
  pub front_room : (q : Request) → front_of k q room ≡ part 0 (need_of q) (room_of k room)
  unfolding room_of front_of
  front_room q =
      ap (λ (i : ℕ). part i (need_of q) room) (sym (add-zero (slot_start k)))
      ∙ sym (part_part (slot_start k) slot_room 0 (need_of q) room part_inside (omega (arith, need_small q)))

  -- what stands behind the eight parts is not looked at
  pub room_tail : (t : List ℕ) → room_of k (room ++ t) ≡ room_of k room
  unfolding room_of
  room_tail t = part_tail (slot_start k) slot_room room t part_inside

  pub front_tail : (q : Request) (t : List ℕ) → front_of k q (room ++ t) ≡ front_of k q room
  unfolding front_of
  front_tail q t = part_tail (slot_start k) (need_of q) room t (omega (arith, need_small q))

-- ---- a burst that is copied to slot k's part

module _ (k at : ℕ) (ys room : List ℕ) (below : k < slot_count) (roomed : room_size ≤ length room) (fits : at + length ys ≤ slot_room) where
  inside : slot_start k + at + length ys ≤ length room
  inside = omega arith

  pub length_copied : length (room_copied k at ys room) ≡ length room
  unfolding room_copied
  length_copied = length_splice (slot_start k + at) ys room inside

  pub own_copied : room_of k (room_copied k at ys room) ≡ splice at ys (room_of k room)
  unfolding room_of room_copied
  own_copied = splice_inside (slot_start k) slot_room at ys room (omega arith) fits

  -- other parts stay
  pub other_copied : (j : ℕ) → j < slot_count → ¬ (j ≡ k) → room_of j (room_copied k at ys room) ≡ room_of j room
  unfolding room_of room_copied
  other_copied j h n =
      splice_apart (slot_start k + at) ys room inside (slot_start j) slot_room (omega arith) (side (dec_lt j k))
    where
      side : Dec (j < k) → (slot_start k + at + length ys ≤ slot_start j) ⊎ (slot_start j + slot_room ≤ slot_start k + at)
      side (yes y) = inr (omega arith)
      side (no y) = inl (omega (arith, n))

  pub other_front_copied : (j : ℕ) (q : Request) → j < slot_count → ¬ (j ≡ k)
      → front_of j q (room_copied k at ys room) ≡ front_of j q room
  other_front_copied j q h n =
      front_room j (room_copied k at ys room) h (omega (arith, length_copied)) q
      ∙ ap (part 0 (need_of q)) (other_copied j h n)
      ∙ sym (front_room j room h roomed q)

  -- and so does every byte outside slot k's part
  pub outside_copied : (i : ℕ) → ¬ (i / slot_room ≡ k) → get_or (room_copied k at ys room) i 0 ≡ get_or room i 0
  unfolding room_copied
  outside_copied i n = side (dec_lt i (slot_start k))
    where
      side : Dec (i < slot_start k) → get_or (splice (slot_start k + at) ys room) i 0 ≡ get_or room i 0
      side (yes y) = splice_below (slot_start k + at) ys room inside i (omega arith)
      side (no y) = splice_above (slot_start k + at) ys room inside i (omega (arith, n))

  -- what stands behind the eight parts stays
  pub copied_tail : (t : List ℕ) → room_copied k at ys (room ++ t) ≡ room_copied k at ys room ++ t
  unfolding room_copied
  copied_tail t = splice_tail (slot_start k + at) ys room t inside

-- ---- mailbox bytes that are put at the front of slot k's part

filled_copied : (k : ℕ) (ys room : List ℕ) → room_filled k ys room ≡ room_copied k 0 ys room
unfolding room_filled room_copied
filled_copied k ys room = ap (λ (i : ℕ). splice i ys room) (sym (add-zero (slot_start k)))

module _ (k : ℕ) (ys room : List ℕ) (below : k < slot_count) (roomed : room_size ≤ length room) (fits : length ys ≤ slot_room) where
  fits' : 0 + length ys ≤ slot_room
  fits' = omega arith

  pub length_filled : length (room_filled k ys room) ≡ length room
  length_filled = ap length (filled_copied k ys room) ∙ length_copied k 0 ys room below roomed fits'

  pub own_filled : room_of k (room_filled k ys room) ≡ splice 0 ys (room_of k room)
  own_filled = ap (room_of k) (filled_copied k ys room) ∙ own_copied k 0 ys room below roomed fits'

  -- the front is what was put there
  pub front_filled : (q : Request) → length ys ≡ need_of q → front_of k q (room_filled k ys room) ≡ ys
  unfolding front_of room_filled
  front_filled q e =
      ap (λ (n : ℕ). part (slot_start k) n (splice (slot_start k) ys room)) (sym e) ∙ part_splice (slot_start k) ys room (omega arith)

  pub other_filled : (j : ℕ) → j < slot_count → ¬ (j ≡ k) → room_of j (room_filled k ys room) ≡ room_of j room
  other_filled j h n = ap (room_of j) (filled_copied k ys room) ∙ other_copied k 0 ys room below roomed fits' j h n

  pub other_front_filled : (j : ℕ) (q : Request) → j < slot_count → ¬ (j ≡ k) → front_of j q (room_filled k ys room) ≡ front_of j q room
  other_front_filled j q h n =
      ap (front_of j q) (filled_copied k ys room) ∙ other_front_copied k 0 ys room below roomed fits' j q h n

  pub outside_filled : (i : ℕ) → ¬ (i / slot_room ≡ k) → get_or (room_filled k ys room) i 0 ≡ get_or room i 0
  outside_filled i n =
      ap (λ (l : List ℕ). get_or l i 0) (filled_copied k ys room) ∙ outside_copied k 0 ys room below roomed fits' i n

  pub filled_tail : (t : List ℕ) → room_filled k ys (room ++ t) ≡ room_filled k ys room ++ t
  filled_tail t =
      filled_copied k ys (room ++ t)
      ∙ copied_tail k 0 ys room below roomed fits' t
      ∙ ap (λ (l : List ℕ). l ++ t) (sym (filled_copied k ys room))
