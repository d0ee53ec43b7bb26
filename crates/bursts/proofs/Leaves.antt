-- The shapes that the leaves leave.
use Rattle.std.specs.Prelude.{◌≡◌, List, ◌++◌, ℕ, ◌+◌, ◌-◌, ◌≤◌, length, take, drop}
use Rattle.std.proofs.Common.{sym, ◌∙◌, ap}
use Rattle.std.proofs.Math.Nat.{add-sub_cancel_left}
use Rattle.words.specs.Parts.{part, splice}
use Rattle.words.proofs.Parts.{splice_all, length_part, lent_splice}
use Rattle.words.proofs.Maps.{length_map_from}
use Rattle.requests.specs.declared.Request.{Request}
use Rattle.mailboxes.specs.Mailboxes.{need_of}
use Rattle.burst_table.specs.Sizes.{burst_size}
use Rattle.bursts.specs.Moves.{written_part, write_at, copy_at}

pub length_written_part : (q : Request) (mail : List ℕ) (first : ℕ) (p : List ℕ) → length (written_part q mail first p) ≡ length p
unfolding written_part
length_written_part q mail first p = length_map_from _ first p

-- The two shapes that a lent part leaves: n is the needed length as a call answered it, out the part's new contents.
pub written_lent : (q : Request) (at base first n : ℕ) (room store out : List ℕ) → n ≡ need_of q → at + burst_size ≤ length store
    → out ≡ written_part q (take (base + n - base) (drop base room)) first (take (at + burst_size - at) (drop at store))
    → take at store ++ (out ++ drop (at + burst_size - at) (drop at store)) ≡ write_at q (part base (need_of q) room) at first store
unfolding part write_at
written_lent q at base first n room store out k h e =
    rw add-sub_cancel_left (lent_splice at burst_size out store long ∙ ap (λ (ys : List ℕ). splice at ys store) same)
  where
    same : out ≡ written_part q (take (need_of q) (drop base room)) first (take burst_size (drop at store))
    same = e ∙ rw (add-sub_cancel_left, add-sub_cancel_left, k)

    long : length out ≡ burst_size
    long =
        ap length same
        ∙ length_written_part q (take (need_of q) (drop base room)) first (take burst_size (drop at store))
        ∙ length_part at burst_size store h

-- a burst that is copied to an array and on from there: moved is the array at first, held the array with the burst
pub copied_through : (from moved held to out : List ℕ) → length from ≡ burst_size → length moved ≡ burst_size → length to ≡ burst_size
    → held ≡ splice 0 from moved → out ≡ splice 0 held to → out ≡ from
copied_through from moved held to out f m t e g = g ∙ splice_all held to (ap length same ∙ f ∙ sym t) ∙ same
  where
    same : held ≡ from
    same = e ∙ splice_all from moved (f ∙ sym m)

pub copied_lent : (at to : ℕ) (store room out : List ℕ) → at + burst_size ≤ length store
    → out ≡ take (at + burst_size - at) (drop at store)
    → take to room ++ (out ++ drop (to + burst_size - to) (drop to room)) ≡ copy_at at store to room
unfolding part copy_at
copied_lent at to store room out h e =
    rw add-sub_cancel_left (lent_splice to burst_size out room long ∙ ap (λ (ys : List ℕ). splice to ys room) same)
  where
    same : out ≡ take burst_size (drop at store)
    same = e ∙ rw add-sub_cancel_left

    long : length out ≡ burst_size
    long = ap length same ∙ length_part at burst_size store h
