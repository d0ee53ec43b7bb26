-- A burst that is written is a burst of one record: the store's length stays, the record has its burst changed, and every part that
-- lies apart from it stays.
use Rattle.std.specs.Prelude.{◌≡◌, List, ◌⊎◌, ℕ, ◌+◌, ◌*◌, ◌≤◌}
use Rattle.std.proofs.Common.{sym, ◌∙◌, ap, arith}
use Rattle.std.proofs.Math.Logic.{inl, inr}
use Rattle.std.proofs.Math.ListN.{length}
use Rattle.words.specs.Parts.{part, splice}
use Rattle.words.proofs.Parts.{length_part, length_splice, splice_apart, splice_inside, part_part}
use Rattle.requests.specs.declared.Request.{Request}
use Rattle.burst_table.specs.Sizes.{burst_size}
use Rattle.byte_rule.specs.Bytes.{byte_of}
use Rattle.bursts.specs.Moves.{written_part, write_at}
use Rattle.bursts.proofs.Leaves.{length_written_part}
use Rattle.bursts.specs.Bursts.{burst}

module _ (q : Request) (mail : List ℕ) (at first : ℕ) (store : List ℕ) (fit : at + burst_size ≤ length store) where
  new_length : length (written_part q mail first (part at burst_size store)) ≡ burst_size
  new_length = length_written_part q mail first (part at burst_size store) ∙ length_part at burst_size store fit

  new_fits : at + length (written_part q mail first (part at burst_size store)) ≤ length store
  new_fits = omega (arith, new_length)

  pub length_write_at : length (write_at q mail at first store) ≡ length store
  unfolding write_at
  length_write_at = length_splice at (written_part q mail first (part at burst_size store)) store new_fits

  -- what lies apart from the burst stays
  pub write_at_apart : (b n : ℕ) → b + n ≤ length store → (at + burst_size ≤ b) ⊎ (b + n ≤ at)
      → part b n (write_at q mail at first store) ≡ part b n store
  unfolding write_at
  write_at_apart b n h o = splice_apart at (written_part q mail first (part at burst_size store)) store new_fits b n h (turn o)
    where
      turn : (at + burst_size ≤ b) ⊎ (b + n ≤ at) → (at + length (written_part q mail first (part at burst_size store)) ≤ b) ⊎ (b + n ≤ at)
      turn (inl x) = inl (omega (arith, new_length))
      turn (inr x) = inr x

-- the record of n bytes at r has its burst j changed
pub write_at_record : (q : Request) (mail : List ℕ) (r n j : ℕ) (store : List ℕ) → r + n ≤ length store → burst_size * j + burst_size ≤ n
    → part r n (write_at q mail (r + burst_size * j) (burst_size * j) store) ≡ burst (byte_of q mail) j (part r n store)
unfolding write_at written_part
write_at_record q mail r n j store h k =
    ap (λ (p : List ℕ). part r n (splice (r + burst_size * j) (written_part q mail (burst_size * j) p) store))
    (sym (part_part r n (burst_size * j) burst_size store h k))
    ∙ splice_inside r n (burst_size * j) new store h (omega (arith, long))
  where
    new : List ℕ
    new = written_part q mail (burst_size * j) (part (burst_size * j) burst_size (part r n store))

    long : length new ≡ burst_size
    long =
        length_written_part q mail (burst_size * j) (part (burst_size * j) burst_size (part r n store))
        ∙ length_part (burst_size * j) burst_size (part r n store) (omega (arith, length_part r n store h))
