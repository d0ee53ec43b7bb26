-- Laws about the definitions of specs/Parts.antt.
use Rattle.std.specs.Prelude.{◌≡◌, List, ℕ, ◌+◌, ◌≤◌, length, take}
use Rattle.std.proofs.Common.{sym, ◌∙◌, arith, length-take-le}
use Rattle.words.specs.Parts.{part, splice}
use Rattle.requests.specs.declared.Request.{Request}
use Rattle.mailboxes.specs.Mailboxes.{need_of}
use Rattle.burst_table.specs.Sizes.{slot_start}
use Rattle.burst_table.proofs.Laws.{need_small}
use Rattle.bursts.specs.Room.{room_filled}
use Rattle.apply_parts.specs.Parts.{Taking}

-- ---- the mailbox bytes of a request that takes a slot

module _ (q : Request) (k r : ℕ) (mail : List ℕ) (t : Taking q k r (length mail)) (n : ℕ) (need-is : n ≡ need_of q) where
  pub front_length : n ≡ length (take n mail)
  front_length = sym (length-take-le n mail (omega (arith, t.enough)))

  pub front_inside : (base : ℕ) → base ≡ slot_start k → base + length (take n mail) ≤ r
  front_inside base e = omega (arith, front_length, need_small q, t.below, t.roomed)

pub fill_leaves : (q : Request) (k n base : ℕ) (mail room out : List ℕ) → n ≡ need_of q → base ≡ slot_start k
    → out ≡ splice base (take n mail) room → out ≡ room_filled k (part 0 (need_of q) mail) room
unfolding room_filled part
fill_leaves q k n base mail room out e f z = z ∙ rw (e, f)
