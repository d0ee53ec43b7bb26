-- What the test `row.len() != 8` says where it holds, as the laws of NotEight take it; and what that says of a world with such a row.
use Rattle.std.specs.Prelude.{◌≡◌, ◌≢◌, refl, Bool, true, false, not, List, ℕ, T, eqb, length}
use Rattle.std.proofs.Common.{ne_eqb}
use Rattle.slots.specs.declared.Slot.{Slot}
use Rattle.possible.specs.declared.Hca.{Hca}
use Rattle.rules.specs.World.{world, bad_row, bad_lent}

pub other_row : {X : Type 0} (ys : List X) → length ys ≢ 8 → T (not (eqb (length ys) 8))
other_row ys n = rw (ne_eqb (length ys) 8 n) tt

holds : (b : Bool) → T b → b ≡ true
holds true h = refl
holds false h = absurd h

pub bad_row_lem : (h : Hca) (row : List Slot) (store room : List ℕ) → T (not (eqb (length row) 8)) → bad_row (world h row store room) ≡ true
unfolding bad_row
bad_row_lem h row store room bad = rw (holds (not (eqb (length row) 8)) bad)

pub bad_lent_lem : (h : Hca) (row : List Slot) (store room : List ℕ) → T (not (eqb (length row) 8)) → bad_lent (world h row store room) ≡ true
unfolding bad_lent
bad_lent_lem h row store room bad = rw (bad_row_lem h row store room bad)
