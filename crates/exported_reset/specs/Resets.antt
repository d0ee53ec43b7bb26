-- A reset on the device's bytes, as the code makes it: what each return makes of the call.
use Rattle.std.specs.Prelude.{◌≡◌, refl, List, ◌++◌, ℕ, ◌+◌, ◌≤◌, ◌<◌, eqb, length, take, drop, replicate}
use Rattle.std.proofs.Common.{◌∙◌, append-nil, arith, drop_of_length-le, take_at}
use Rattle.std.proofs.Math.Path.{ap}
use borrow.Author.Tests.{eq-eqb, ne_eqb, lt-ltb, le-ltb}
use Rattle.words.specs.Parts.{splice}
use Rattle.burst_table.specs.Sizes.{slot_count, room_size}
use Rattle.rows.specs.Rows.{empty_row}
use Rattle.possible.specs.declared.Hca.{Hca}
use Rattle.rules.specs.World.{shut, bad_row}
use Rattle.rules.specs.Resets.{reset_of}
use Rattle.device_bytes.specs.Decoding.{row_of, hca_of}
use Rattle.device_bytes.specs.Encoding.{hca_bytes, row_bytes, device_bytes, put_header}
use Rattle.device_bytes.proofs.Headers.{length_header, length_put}
use Rattle.device_calls.specs.Calls.{emptied, reset_left, reset_call}
use Rattle.device_calls.proofs.Tests.{eight}

-- eight empty slots are all zero
zeros : replicate 256 0 ≡ row_bytes empty_row
unfolding row_bytes
zeros = refl

-- the header, and zeros behind it
written : (h : Hca) (dev m d : List ℕ) → length dev ≡ 288 → m ≡ put_header h dev → d ≡ splice 32 (replicate 256 0) m
    → d ≡ device_bytes h empty_row
unfolding put_header device_bytes splice
written h dev m d l e f =
    let top : List ℕ = hca_bytes h in
    let whole : List ℕ = top ++ drop (0 + length top) dev in
    let front : take 32 whole ≡ top = take_at top _ 32 (length_header h) in
    let all : length whole ≤ 288 = omega (arith, length_put h dev l) in
    f ∙ ap (λ (x : List ℕ). take 32 x ++ (replicate 256 0 ++ drop 288 x)) e
    ∙ ap (λ (x : List ℕ). x ++ (replicate 256 0 ++ drop 288 whole)) front
    ∙ ap (λ (x : List ℕ). top ++ (replicate 256 0 ++ x)) (drop_of_length-le whole all)
    ∙ ap (λ (x : List ℕ). top ++ x) (append-nil (replicate 256 0) ∙ zeros)

module _ (dev store room : List ℕ) where
  -- a device of another length has no row of eight
  pub reset_device_lem : ¬ (length dev ≡ 288) → emptied 0x83 dev ≡ reset_call dev store room
  unfolding reset_call reset_left reset_of bad_row row_of
  reset_device_lem n = rw (ne_eqb (length dev) 288 n)

  module _ (sized : length dev ≡ 288) where
    pub reset_room : length room < room_size → emptied 0x83 dev ≡ reset_call dev store room
    unfolding reset_call reset_left reset_of bad_row
    reset_room l = rw (eq-eqb (length (row_of dev)) slot_count (eight dev sized), lt-ltb (length room) room_size l)

    pub reset_done_lem : room_size ≤ length room → (g h : Hca) → g ≡ hca_of dev → h ≡ shut g → (m d : List ℕ) → m ≡ put_header h dev
        → d ≡ splice 32 (replicate 256 0) m → emptied 0 d ≡ reset_call dev store room
    unfolding reset_call reset_left reset_of bad_row
    reset_done_lem l g h p q m d e f =
        rw (eq-eqb (length (row_of dev)) slot_count (eight dev sized), le-ltb (length room) room_size l)
        (ap (emptied 0) (written h dev m d sized e f ∙ ap (λ (x : Hca). device_bytes x empty_row) (q ∙ ap shut p)))
