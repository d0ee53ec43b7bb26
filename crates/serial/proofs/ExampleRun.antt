-- A run of the small system of Example, call by call, on a machine with one slot: the journal is computed, and the claim holds.
use Rattle.std.specs.Prelude.{◌≡◌, refl, List, [], ◌∷◌, ℕ, zero, suc}
use Rattle.std.proofs.Common.{sym, subst}
use Rattle.std.proofs.Math.Decide.{ℕ_discrete}
use Rattle.serial.specs.Core.{Claims, refused, done}
use Rattle.serial.specs.Slots.{Slot, free, runs, ended, View, Item, off, gone, PassesAll, turn, take, once, step, last, collect}
use Rattle.serial.proofs.Ledger.{shut, kept, Moves, stop, then, event, fresh, owed}
use Rattle.serial.specs.Example.{Side, left, right, Req, fill, peek, two, one, Writes, system}

-- the left record and the slot; the right record is (9, 9)
abbrev both : ℕ × ℕ → Side → ℕ × ℕ
both c left = c
both c right = (9, 9)

abbrev only : Slot system → ℕ → Slot system
only x zero = x
only x (suc j) = free

abbrev world : ℕ × ℕ → Slot system → View system
world c x = record { look = both c; slot = only x }

beside : (x y : Slot system) (j : ℕ) → ¬ (j ≡ 0) → only y j ≡ only x j
beside x y zero n = absurd (n refl)
beside x y (suc j) n = refl

abbrev Busy : Slot system → Type 0
Busy free = ⊥
Busy (runs r p) = Unit {0}
Busy (ended r a) = ⊥

idle_slot : (c : ℕ × ℕ) (x : Slot system) → ¬ Busy x → (r : Req) → PassesAll system (world c x) r
idle_slot c x n r j q p e = absurd (go j (subst Busy (sym e) tt))
  where
    go : (j : ℕ) → Busy (only x j) → ⊥
    go zero b = n b
    go (suc j) b = b

right_kept : (c d : ℕ × ℕ) (m n : ℕ) (X : Side) → ¬ Writes (fill m n) X → both c X ≡ both d X
right_kept c d m n left y = absurd (y tt)
right_kept c d m n right y = refl

all_free : (j : ℕ) → only free j ≡ free
all_free zero = refl
all_free (suc i) = refl

-- the one record that the writer writes
left_is : (m n : ℕ) (s t : Side → ℕ × ℕ) → s left ≡ t left → (X : Side) → Writes (fill m n) X → s X ≡ t X
left_is m n s t e left y = e
left_is m n s t e right y = absurd y

abbrev journal : List (Item system)
journal = gone (fill 2 3) [] ∷ gone peek ((2, 8) ∷ (9, 9) ∷ []) ∷ off (fill 1 1) 2 ∷ []

-- a fresh start; the writer is accepted and moves its two bursts; the reader; a second writer, refused; the first is collected
pub run : Moves system (world (0, 5) free) shut (world (2, 8) free)
    (kept (both (0, 5)) journal)
unfolding ℕ_discrete
run =
    then {u = world (0, 5) free} (fresh all_free)
    (then {u = world (0, 5) (runs (fill 2 3) two)} (event (take {k = 0} two (λ X. refl) refl refl (beside _ _)
    (idle_slot (0, 5) free (λ b. b) (fill 2 3)) refl refl))
    (then {u = world (2, 5) (runs (fill 2 3) one)} (event (step (fill 2 3) 0 two one refl refl (beside _ _) (right_kept _ _ 2 3)
    (λ t e. e)))
    (then {u = world (2, 8) (ended (fill 2 3) [])} (event (last (fill 2 3) 0 one [] refl refl (beside _ _) (right_kept _ _ 2 3)
    (λ t e. (refl, left_is 2 3 _ _ e))))
    (then {u = world (2, 8) (ended (fill 2 3) [])} (event (once (λ X. refl) (λ j. refl)
    (idle_slot (2, 8) (ended (fill 2 3) []) (λ b. b) peek) refl refl))
    (then {u = world (2, 8) (ended (fill 2 3) [])} (event (turn {r = fill 1 1} (record { looks = λ X. refl; slots = λ j. refl })
    (idle_slot (2, 8) (ended (fill 2 3) []) (λ b. b) (fill 1 1)) refl))
    (then {u = world (2, 8) free} (event (collect (fill 2 3) {k = 0} refl refl (beside _ _) (λ X. refl))) stop))))))

pub example_claims : Claims system (both (0, 5)) (both (2, 8))
    (done (fill 2 3) [] ∷ done peek ((2, 8) ∷ (9, 9) ∷ []) ∷ refused (fill 1 1) 2 ∷ [])
example_claims = owed system (world (0, 5) free) (world (2, 8) free) (kept (both (0, 5)) journal) run
