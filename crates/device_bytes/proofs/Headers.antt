-- A device with its header written anew: what it then decodes to.
use Rattle.std.specs.Prelude.{◌≡◌, refl, Bool, true, false, ℕ, ◌+◌, ◌*◌, ◌^◌, ◌≤◌, ◌<◌, eqb, ltb, get_or, drop}
use Rattle.std.proofs.Common.{sym, ◌∙◌, inl, inr, zero-add, arith, lit≤, ext_get_or}
use Rattle.std.proofs.Math.Path.{ap}
use mathlib.Core.List.{List, ◌++◌}
use borrow.Author.Tests.{eq-eqb, le-ltb}
use Rattle.std.proofs.Math.ListN.{length}
use Rattle.words.specs.Choice.{pick}
use Rattle.words.specs.Parts.{part, splice}
use Rattle.words.proofs.Parts.{length_splice, splice_apart}
use Rattle.words.specs.Words.{AreBytes, le_bytes}
use Rattle.hcr.specs.Register.{bit}
use Rattle.hcr.proofs.WordList.{le32_small}
use Rattle.slots.specs.Slots.{slot}
use Rattle.slots.specs.declared.Slot.{Slot}
use Rattle.slots.specs.declared.Status.TheVariants.{Free}
use Rattle.possible.specs.declared.Hca.{Hca}
use Rattle.device_bytes.specs.Decoding.{slot_place, status_of, slot_at, slots_of, row_of, hca_of}
use Rattle.device_bytes.specs.Encoding.{header_bytes, hca_bytes, put_header}
use Rattle.device_bytes.proofs.RoundTrip.{header_round}
use Rattle.device_bytes.proofs.Walks.{length_slots, get_or_slots}

pub length_header : (h : Hca) → length (hca_bytes h) ≡ 32
unfolding header_bytes le_bytes
length_header h = refl

bit_small : (b : Bool) → bit b ≤ 1
bit_small true = lit≤ tt
bit_small false = lit≤ tt

module _ (h : Hca) (dev : List ℕ) (sized : length dev ≡ 288) where
  fits : 0 + length (hca_bytes h) ≤ length dev
  fits = omega (arith, length_header h, sized)

  pub length_put : length (put_header h dev) ≡ 288
  unfolding put_header
  length_put = length_splice 0 (hca_bytes h) dev fits ∙ sized

  pub hca_put : h.store_len < 2 ^ 64 → hca_of (put_header h dev) ≡ h
  unfolding put_header splice
  hca_put f = header_round h (drop (0 + length (hca_bytes h)) dev) f

  first_put : get_or (put_header h dev) 0 0 ≤ 1
  unfolding put_header splice header_bytes
  first_put = bit_small h.«open»

  slot_kept : (j : ℕ) → j < 8 → slot_at j (put_header h dev) ≡ slot_at j dev
  unfolding slot_at put_header
  slot_kept j l =
      ap (λ (b : List ℕ). slot (status_of b))
      (splice_apart 0 (hca_bytes h) dev fits (slot_place j) 32 (omega (arith, sized)) (inl (omega (arith, length_header h))))

  slots_kept : slots_of 8 (put_header h dev) ≡ slots_of 8 dev
  slots_kept =
      ext_get_or (slot Free) (slots_of 8 (put_header h dev)) (slots_of 8 dev) (length_slots 8 (put_header h dev) ∙ sym (length_slots 8 dev))
      (λ j l. let l' : j < 8 = omega (arith, length_slots 8 (put_header h dev)) in
      get_or_slots 8 (put_header h dev) j l' (lit≤ tt) ∙ slot_kept j l' ∙ sym (get_or_slots 8 dev j l' (lit≤ tt)))

  pub row_put : get_or dev 0 0 ≤ 1 → row_of (put_header h dev) ≡ row_of dev
  unfolding row_of
  row_put o =
      rw (
        eq-eqb (length dev) 288 sized,
        eq-eqb (length (put_header h dev)) 288 length_put,
        le-ltb 1 (get_or dev 0 0) o,
        le-ltb 1 (get_or (put_header h dev) 0 0) first_put,
      ) slots_kept

-- the length that a header has is one of 64 bits
pub length_small : (dev : List ℕ) → length dev ≡ 288 → AreBytes dev → (hca_of dev).store_len < 2 ^ 64
unfolding hca_of
length_small dev l a = omega (arith, le32_small 8 dev (omega (arith, l)) a, le32_small 12 dev (omega (arith, l)) a)
