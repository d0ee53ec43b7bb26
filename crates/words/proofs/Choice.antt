-- Laws about the definitions of specs/Choice.antt.
use Rattle.std.specs.Prelude.{◌≡◌, refl, Bool, true, false}
use Rattle.std.proofs.Common.{sym, ◌∙◌, eq-eqb, ne_eqb, lt-ltb, le-ltb, le-leb}
use Rattle.std.proofs.lemmas.Bool.{false≢true, lt-leb}
use Rattle.words.specs.Choice.{both, pick}

pub pick_yes : {A : Type 0} (b : Bool) (x y r : A) → b ≡ true → r ≡ x → r ≡ pick b x y
pick_yes b x y r t e = rw t e

pub pick_no : {A : Type 0} (b : Bool) (x y r : A) → b ≡ false → r ≡ y → r ≡ pick b x y
pick_no b x y r t e = rw t e

-- a test that a call answered: r is its answer, and b what its contract says that it is
pub told : (r b t : Bool) → r ≡ b → r ≡ t → b ≡ t
told r b t p q = sym p ∙ q

pub ruleset cases = (told, pick_yes, pick_no, eq-eqb, ne_eqb, lt-ltb, le-ltb, le-leb, lt-leb)

-- what holds of each value under its outcome of the test holds of the choice
pub by_pick {κ} : {A : Type 0} (P : A → Type κ) (b : Bool) (x y : A) → (b ≡ true → P x) → (b ≡ false → P y) → P (pick b x y)
by_pick P true x y f g = f refl
by_pick P false x y f g = g refl

-- a function of a choice is the choice of its values
pub pick_ap : {A B : Type 0} (f : A → B) (b : Bool) (x y : A) → f (pick b x y) ≡ pick b (f x) (f y)
pick_ap f true x y = refl
pick_ap f false x y = refl

-- a choice in a choice, with one way out of both, asks for both tests
pub pick_both : {A : Type 0} (p q : Bool) (x y : A) → pick p (pick q x y) y ≡ pick (both p q) x y
pick_both true q x y = refl
pick_both false q x y = refl

pub both_left : (p q : Bool) → both p q ≡ true → p ≡ true
both_left true q e = refl
both_left false q e = e

pub both_right : (p q : Bool) → both p q ≡ true → q ≡ true
both_right true q e = e
both_right false q e = absurd (false≢true e)

pub both_yes : (p q : Bool) → p ≡ true → q ≡ true → both p q ≡ true
both_yes p q e f = rw e f
