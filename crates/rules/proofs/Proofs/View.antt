-- What demand 3 looks at in a world, and which parts of it a call leaves that changes one slot.
use Rattle.std.specs.Prelude.{◌≡◌, refl, Bool, true, List, [], ◌∷◌, ◌++◌, ℕ, ◌<◌, length, get_or, drop, set}
use Rattle.std.proofs.Common.{◌∙◌, ap, ap₂, get_or-set_other}
use Rattle.std.proofs.Math.Decide.{dec_lt}
use Rattle.words.specs.Choice.{pick}
use Rattle.context.specs.Layout.{is_record}
use Rattle.context.specs.declared.Record.{Record}
use Rattle.requests.specs.declared.Request.{Request}
use Rattle.burst_table.specs.Bursts.{bursts_of}
use Rattle.burst_table.specs.Sizes.{slot_count}
use Rattle.answers.specs.Answers.{answer_of}
use Rattle.bursts.specs.Room.{room_of, front_of}
use Rattle.records.specs.Memory.{Memory, record_in, joined_in, AllRecords}
use Rattle.slots.specs.Slots.{slot}
use Rattle.slots.specs.declared.Slot.{Slot}
use Rattle.slots.specs.declared.Status.{Status}
use Rattle.slots.specs.declared.Status.TheVariants.{Free, Running, Finished}
use Rattle.possible.specs.declared.Hca.{Hca}
use Rattle.serial.specs.Slots.{Slot as Shown, free, runs, ended, View, Note as Noted, Event}
use Rattle.serial.specs.Order.{Done as Fin}
use Rattle.serial.proofs.Told.{Heard, hear}
use Rattle.rules.specs.World.{World, status_at}
use Rattle.rules.proofs.Laws.Lent.{Sized, beyond}
use Rattle.rules.proofs.Proofs.System.{Place, gate, at, one, gate_bytes, join, left, system}
use Rattle.rules.proofs.Proofs.Shown.{plain}

abbrev pub look_at : World → Place → List ℕ
look_at w gate = gate_bytes w.hca.«open» w.hca.logs
look_at w (at X) = pick (is_record w.hca.logs X) (record_in w.hca.logs w.memory X) []

abbrev pub slot_view : ℕ → List ℕ → Status → Shown system
slot_view k room Free = free
slot_view k room (Running m q) = runs (one q (front_of k q room)) (left (drop m (bursts_of q)) (room_of k room))
slot_view k room (Finished m q) = ended (one q (front_of k q room)) (answer_of q (room_of k room))

abbrev pub slot_at : World → ℕ → Shown system
slot_at w k = slot_view k w.room (status_at k w.row)

abbrev pub view_of : World → View system
view_of w = record { look = look_at w; slot = slot_at w }

-- a call from w to u of which this is heard is an event
pub record Fine (w u : World) (h : Heard system plain) : Type 0 where
  pub note : Noted system
  pub tells : hear system plain note ≡ h
  pub ended : List (Fin system)
  pub event : Event system (view_of w) (view_of u) note ended

-- ---- what is looked at

pub look_valid : (w : World) (X : Record) → is_record w.hca.logs X ≡ true → look_at w (at X) ≡ record_in w.hca.logs w.memory X
look_valid w X e = ap (λ (b : Bool). pick b (record_in w.hca.logs w.memory X) []) e

pub look_same : (w u : World) → u.hca ≡ w.hca → u.memory ≡ w.memory → (X : Place) → look_at u X ≡ look_at w X
look_same w u e f gate = ap (λ (h : Hca). gate_bytes h.«open» h.logs) e
look_same w u e f (at X) = ap₂ (λ (h : Hca) (m : Memory). pick (is_record h.logs X) (record_in h.logs m X) []) e f

-- the joined bytes of records that the store has, and of two worlds that look alike
pub look_joined : (w : World) (Xs : List Record) → AllRecords w.hca.logs Xs
    → join Xs (look_at w) ≡ joined_in w.hca.logs w.memory Xs
look_joined w [] a = refl
look_joined w (X ∷ Xs) a = ap₂ (λ (x y : List ℕ). x ++ y) (look_valid w X a.0) (look_joined w Xs a.1)

-- ---- the slots that a call does not name stay

pub others : (w u : World) (k : ℕ) (s : Slot) → Sized w → u.row ≡ set w.row k s
    → ((j : ℕ) → j < slot_count → ¬ (j ≡ k) → room_of j u.room ≡ room_of j w.room)
    → ((j : ℕ) (q : Request) → j < slot_count → ¬ (j ≡ k) → front_of j q u.room ≡ front_of j q w.room)
    → (j : ℕ) → ¬ (j ≡ k) → slot_at u j ≡ slot_at w j
unfolding status_at
others w u k s z e r f j n = go (dec_lt j slot_count)
  where
    same : status_at j u.row ≡ status_at j w.row
    same =
        ap (λ (l : List Slot). (get_or l j (slot Free)).status) e
        ∙ ap (λ (x : Slot). x.status) (get_or-set_other w.row k j s (slot Free) n)

    free_both : (room room' : List ℕ) (t : Status) → t ≡ Free → slot_view j room t ≡ slot_view j room' t
    free_both room room' t h = rw h

    views : j < slot_count → (t : Status) → slot_view j u.room t ≡ slot_view j w.room t
    views h Free = refl
    views h (Running m q) = ap₂ (λ (x y : List ℕ). runs (one q x) (left (drop m (bursts_of q)) y)) (f j q h n) (r j h n)
    views h (Finished m q) = ap₂ (λ (x y : List ℕ). ended (one q x) (answer_of q y)) (f j q h n) (r j h n)

    go : Dec (j < slot_count) → slot_at u j ≡ slot_at w j
    go (yes h) = ap (slot_view j u.room) same ∙ views h (status_at j w.row)
    go (no h) =
        ap (slot_view j u.room) same
        ∙ free_both u.room w.room (status_at j w.row) (ap (λ (x : Slot). x.status) (beyond w z j h))
