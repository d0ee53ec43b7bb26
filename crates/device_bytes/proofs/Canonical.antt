-- A device as we write it stays as we write it: the bytes of a state and a row, with a slot or the header written anew, are those of the
-- state and the row that this leaves.
use Rattle.std.specs.Prelude.{◌≡◌, refl, List, [], ◌∷◌, ◌++◌, ℕ, zero, suc, ◌+◌, ◌*◌, ◌<◌, length, get_or, set, ltb}
use Rattle.std.proofs.Common.{sym, ◌∙◌, ap, zero-add, suc-add, arith, drop_at}
use Rattle.words.proofs.Choice.{by_pick}
use Rattle.words.specs.Parts.{splice}
use Rattle.words.specs.Words.{le_bytes}
use Rattle.burst_table.specs.Bursts.{total_of}
use Rattle.requests.specs.declared.Request.TheVariants as request
use Rattle.slots.specs.Slots.{Held, slot, advanced_status}
use Rattle.slots.specs.declared.Slot.{Slot}
use Rattle.slots.specs.declared.Status.{Status}
use Rattle.slots.specs.declared.Status.TheVariants.{Free, Running, Finished}
use Rattle.possible.specs.declared.Hca.{Hca}
use Rattle.device_bytes.specs.Decoding.{slot_place}
use Rattle.device_bytes.specs.Encoding.{slot_bytes, request_bytes, status_bytes, status_code, moved_in, hca_bytes, row_bytes, device_bytes}
use Rattle.device_bytes.specs.Encoding.{put_slot, put_moved, put_header}
use Rattle.device_bytes.proofs.Rewritten.{length_slot_bytes}
use Rattle.device_bytes.proofs.Headers.{length_header}

splice_behind : (a b ys : List ℕ) (i : ℕ) → splice (length a + i) ys (a ++ b) ≡ a ++ splice i ys b
unfolding splice
splice_behind [] b ys i = rw zero-add
splice_behind (x ∷ a) b ys i = rw (suc-add, suc-add) (ap (λ (l : List ℕ). x ∷ l) (splice_behind a b ys i))

-- what stands at the front, written anew
put_first : (a b rest : List ℕ) → length a ≡ length b → splice 0 b (a ++ rest) ≡ b ++ rest
unfolding splice
put_first a b rest e = ap (λ (l : List ℕ). b ++ l) (drop_at a rest (0 + length b) (e ∙ sym (zero-add (length b))))

same_length : (s t : Status) → length (status_bytes s) ≡ length (status_bytes t)
same_length s t = length_slot_bytes s ∙ sym (length_slot_bytes t)

row_written : (k : ℕ) (s : Slot) (row : List Slot) → k < length row
    → splice (k * 32) (status_bytes s.status) (row_bytes row) ≡ row_bytes (set row k s)
unfolding row_bytes
row_written k s [] h = absurd (omega arith)
row_written zero s (t ∷ row) h =
    put_first (status_bytes t.status) (status_bytes s.status) (row_bytes row) (same_length t.status s.status)
row_written (suc k) s (t ∷ row) h =
    let e : suc k * 32 ≡ length (status_bytes t.status) + k * 32 = omega (arith, length_slot_bytes t.status) in
    ap (λ (n : ℕ). splice n (status_bytes s.status) (status_bytes t.status ++ row_bytes row)) e
    ∙ splice_behind (status_bytes t.status) (row_bytes row) (status_bytes s.status) (k * 32)
    ∙ ap (λ (l : List ℕ). status_bytes t.status ++ l) (row_written k s row (omega arith))

pub slot_stays : (h : Hca) (row : List Slot) (k : ℕ) (s : Slot) → k < length row
    → put_slot k s (device_bytes h row) ≡ device_bytes h (set row k s)
unfolding put_slot device_bytes
slot_stays h row k s f =
    ap (λ (n : ℕ). splice (n + k * 32) (status_bytes s.status) (hca_bytes h ++ row_bytes row)) (sym (length_header h))
    ∙ splice_behind (hca_bytes h) (row_bytes row) (status_bytes s.status) (k * 32)
    ∙ ap (λ (l : List ℕ). hca_bytes h ++ l) (row_written k s row f)

pub header_stays : (h g : Hca) (row : List Slot) → put_header g (device_bytes h row) ≡ device_bytes g row
unfolding put_header device_bytes
header_stays h g row = put_first (hca_bytes h) (hca_bytes g) (row_bytes row) (length_header h ∙ sym (length_header g))

-- ---- a step

set_behind : (a b : List ℕ) (i v : ℕ) → set (a ++ b) (length a + i) v ≡ a ++ set b i v
set_behind [] b i v = rw zero-add
set_behind (x ∷ a) b i v = rw suc-add (ap (λ (l : List ℕ). x ∷ l) (set_behind a b i v))

-- a request's bytes with another status and another count of bursts moved
request_moved : (c d m n : ℕ) (q : Held) (rest : List ℕ)
    → set (set (request_bytes c m q ++ rest) 0 d) 2 n ≡ request_bytes d n q ++ rest
unfolding slot_bytes
request_moved c d m n (request.Command x) rest = refl
request_moved c d m n (request.Engine x) rest = refl

slot_moved_lem : (m : ℕ) (q : Held) (rest : List ℕ) (t : Status) → t ≡ advanced_status (Running m q)
    → set (set (request_bytes 1 m q ++ rest) 0 (status_code t)) 2 (moved_in t) ≡ status_bytes t ++ rest
slot_moved_lem m q rest t e =
    rw e (by_pick (λ (s : Status). set (set (request_bytes 1 m q ++ rest) 0 (status_code s)) 2 (moved_in s) ≡ status_bytes s ++ rest)
    (ltb (m + 1) (total_of q)) (Running (m + 1) q) (Finished (total_of q) q)
    (λ f. request_moved 1 1 m (m + 1) q rest) (λ f. request_moved 1 2 m (total_of q) q rest))

row_moved : (k m : ℕ) (q : Held) (row : List Slot) (s : Slot) → k < length row → (get_or row k (slot Free)).status ≡ Running m q
    → s.status ≡ advanced_status (Running m q)
    → set (set (row_bytes row) (k * 32) (status_code s.status)) (k * 32 + 2) (moved_in s.status) ≡ row_bytes (set row k s)
unfolding row_bytes
row_moved k m q [] s h e f = absurd (omega arith)
row_moved zero m q (t ∷ row) s h e f =
    ap (λ (u : Status). set (set (status_bytes u ++ row_bytes row) 0 (status_code s.status)) 2 (moved_in s.status)) e
    ∙ slot_moved_lem m q (row_bytes row) s.status f
row_moved (suc k) m q (t ∷ row) s h e f =
    let a : List ℕ = status_bytes t.status in
    let c : ℕ = status_code s.status in
    let n : ℕ = moved_in s.status in
    let i : suc k * 32 ≡ length (status_bytes t.status) + k * 32 = omega (arith, length_slot_bytes t.status) in
    let j : length (status_bytes t.status) + k * 32 + 2 ≡ length (status_bytes t.status) + (k * 32 + 2) = omega arith in
    ap (λ (x : ℕ). set (set (a ++ row_bytes row) x c) (x + 2) n) i
    ∙ ap (λ (x : ℕ). set (set (a ++ row_bytes row) (length a + k * 32) c) x n) j
    ∙ ap (λ (l : List ℕ). set l (length a + (k * 32 + 2)) n) (set_behind a (row_bytes row) (k * 32) c)
    ∙ set_behind a (set (row_bytes row) (k * 32) c) (k * 32 + 2) n
    ∙ ap (λ (l : List ℕ). a ++ l) (row_moved k m q row s (omega arith) e f)

pub moved_stays : (h : Hca) (row : List Slot) (k m : ℕ) (q : Held) (s : Slot) → k < length row
    → (get_or row k (slot Free)).status ≡ Running m q → s.status ≡ advanced_status (Running m q)
    → put_moved k s (device_bytes h row) ≡ device_bytes h (set row k s)
unfolding put_moved device_bytes
moved_stays h row k m q s l e f =
    let c : ℕ = status_code s.status in
    let n : ℕ = moved_in s.status in
    let j : length (hca_bytes h) + k * 32 + 2 ≡ length (hca_bytes h) + (k * 32 + 2) = omega arith in
    ap (λ (x : ℕ). set (set (hca_bytes h ++ row_bytes row) (x + k * 32) c) (x + k * 32 + 2) n) (sym (length_header h))
    ∙ ap (λ (x : ℕ). set (set (hca_bytes h ++ row_bytes row) (length (hca_bytes h) + k * 32) c) x n) j
    ∙ ap (λ (x : List ℕ). set x (length (hca_bytes h) + (k * 32 + 2)) n) (set_behind (hca_bytes h) (row_bytes row) (k * 32) c)
    ∙ set_behind (hca_bytes h) (set (row_bytes row) (k * 32) c) (k * 32 + 2) n
    ∙ ap (λ (x : List ℕ). hca_bytes h ++ x) (row_moved k m q row s l e f)
