-- What the writers of a moved slot and of the header leave, in the definitions' terms.
use Rattle.std.specs.Prelude.{◌≡◌, List, ℕ, ◌+◌, ◌*◌, ◌/◌, ◌%◌, ◌^◌, ◌<◌, length, replicate, set}
use Rattle.std.proofs.Common.{◌∙◌, ap, arith, length-set}
use Rattle.words.specs.Parts.{splice}
use Rattle.words.specs.Words.{le_bytes}
use Rattle.hcr.specs.Register.{bit}
use Rattle.context.specs.declared.Logs.{Logs}
use Rattle.slots.specs.declared.Slot.{Slot}
use Rattle.possible.specs.declared.Hca.{Hca}
use Rattle.device_bytes.specs.Encoding.{status_code, moved_in, header_bytes, put_moved, put_header}

-- the second of the two stores is inside as well
pub second_fits : (k a : ℕ) (dev : List ℕ) → k < 8 → length dev ≡ 288 → 32 + k * 32 + 2 < length (set dev (32 + k * 32) a)
second_fits k a dev h n = omega (arith, length-set dev (32 + k * 32) a)

pub moved_made : (k : ℕ) (s : Slot) (a b : ℕ) (dev : List ℕ) → a ≡ status_code s.status → b ≡ moved_in s.status
    → set (set dev (32 + k * 32) a) (32 + k * 32 + 2) b ≡ put_moved k s dev
unfolding put_moved
moved_made k s a b dev e f = rw (e, f)

pub header_made : (o : ℕ) (l : Logs) (low high : ℕ) (a b : List ℕ)
    → a ≡ splice 8 (le_bytes 4 low) (set (set (set (set (set (replicate 32 0) 0 o) 1 l.qps) 2 l.cqs) 3 l.eqs) 4 l.mpts)
    → b ≡ splice 12 (le_bytes 4 high) a → b ≡ header_bytes o l low high
unfolding header_bytes splice le_bytes
header_made o l low high a b p q = rw (q, p)

pub put_header_made : (h : Hca) (o low high : ℕ) (bytes dev out : List ℕ) → o ≡ bit h.«open» → low ≡ h.store_len % 2 ^ 32
    → high ≡ h.store_len / 2 ^ 32 → bytes ≡ header_bytes o h.logs low high → out ≡ splice 0 bytes dev → out ≡ put_header h dev
unfolding put_header
put_header_made h o low high bytes dev out p q r e f = f ∙ ap (λ (b : List ℕ). splice 0 b dev) (e ∙ rw (p, q, r))
