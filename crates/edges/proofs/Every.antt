-- Laws about the definitions of specs/Every.antt.
use Rattle.std.specs.Prelude.{◌≡◌, refl, Bool, true, false, List, [], ◌∷◌, ℕ, zero, suc, ◌<◌, T, eqb, length, get_or}
use Rattle.std.proofs.Common.{sym, subst, ◌∙◌, inl, inr, le_of_suc-le-suc, not-suc-le-zero, eq-or-lt_of_le, arith, eqb→eq, lit<, ne_eqb}
use Rattle.std.proofs.lemmas.Bool.{false≢true, lt-leb}
use Rattle.std.specs.Bool.{beq}
use Rattle.words.proofs.Choice.{both_left, both_right}
use Rattle.edges.specs.States.{rc, uc}
use Rattle.edges.specs.Edges.{permits_edge, is_active, write_keeps, write_fails, is_sending, write_stops, permits_write, permits}
use Rattle.edges.specs.declared.State.{State}
use Rattle.edges.specs.declared.State.TheVariants.{Reset, Init, Rtr, Rts, Sqe, Sqd, Err}
use Rattle.edges.specs.declared.Edge.{Edge}
use Rattle.edges.specs.declared.Edge.TheVariants.{ResetToInit, InitToInit, InitToRtr, RtrToRts, RtsToRts, SqeToRts}
use Rattle.edges.specs.declared.Edge.TheVariants.{RtsToSqd, SqdToSqd, SqdToRts, ToErr, ToReset}
use Rattle.edges.specs.declared.Move.{Move}
use Rattle.edges.specs.declared.Move.TheVariants.{Command, Engine}
use Rattle.edges.specs.Every.{AsUc, agrees, alike, every, every_below, every_edge, every_move, every_state}

-- so it holds of the member at each place
at : {A : Type 0} (p : A → Bool) (xs : List A) (d : A) → every p xs ≡ true → (i : ℕ) → i < length xs → p (get_or xs i d) ≡ true
at p [] d t i h = absurd (not-suc-le-zero h)
at p (x ∷ xs) d t zero h = both_left (p x) (every p xs) t
at p (x ∷ xs) d t (suc i) h = at p xs d (both_right (p x) (every p xs) t) i (le_of_suc-le-suc h)

each_edge : (p : Edge → Bool) → every p every_edge ≡ true → (e : Edge) → p e ≡ true
each_edge p t ResetToInit = at p every_edge ToReset t 0 (lit< tt)
each_edge p t InitToInit = at p every_edge ToReset t 1 (lit< tt)
each_edge p t InitToRtr = at p every_edge ToReset t 2 (lit< tt)
each_edge p t RtrToRts = at p every_edge ToReset t 3 (lit< tt)
each_edge p t RtsToRts = at p every_edge ToReset t 4 (lit< tt)
each_edge p t SqeToRts = at p every_edge ToReset t 5 (lit< tt)
each_edge p t RtsToSqd = at p every_edge ToReset t 6 (lit< tt)
each_edge p t SqdToSqd = at p every_edge ToReset t 7 (lit< tt)
each_edge p t SqdToRts = at p every_edge ToReset t 8 (lit< tt)
each_edge p t ToErr = at p every_edge ToReset t 9 (lit< tt)
each_edge p t ToReset = at p every_edge ToReset t 10 (lit< tt)

each_state : (p : State → Bool) → every p every_state ≡ true → (s : State) → p s ≡ true
each_state p t Reset = at p every_state Err t 0 (lit< tt)
each_state p t Init = at p every_state Err t 1 (lit< tt)
each_state p t Rtr = at p every_state Err t 2 (lit< tt)
each_state p t Rts = at p every_state Err t 3 (lit< tt)
each_state p t Sqe = at p every_state Err t 4 (lit< tt)
each_state p t Sqd = at p every_state Err t 5 (lit< tt)
each_state p t Err = at p every_state Err t 6 (lit< tt)

each_move : (p : Move → Bool) → every_move p ≡ true → (asked : Move) → p asked ≡ true
each_move p t (Command e) = each_edge (λ x. p (Command x)) (both_left _ (every (λ s. p (Engine s)) every_state) t) e
each_move p t (Engine s) = each_state (λ x. p (Engine x)) (both_right (every (λ e. p (Command e)) every_edge) _ t) s

-- two tests agree
agree : (p q : Bool) → beq p q ≡ true → p ≡ q
agree true true e = refl
agree true false e = absurd (false≢true e)
agree false true e = absurd (false≢true e)
agree false false e = refl

pub each_below : (n : ℕ) (p : ℕ → Bool) → every_below n p ≡ true → (k : ℕ) → k < n → p k ≡ true
each_below zero p t k h = absurd (not-suc-le-zero h)
each_below (suc n) p t k h =
    elim (eq-or-lt_of_le (le_of_suc-le-suc h))
    [ inl e ↦ rw e (both_left (p n) (every_below n p) t) | inr l ↦ each_below n p (both_right (p n) (every_below n p) t) k l ]

pub none_permitted : (code : ℕ) → 6 < code → (asked : Move) (service : ℕ) → permits asked code service ≡ false
unfolding permits_edge is_active write_keeps write_fails is_sending write_stops permits_write
none_permitted code h (Command edge) service = rw (lt-leb code 6 h)
none_permitted code h (Engine to) service =
    rw (ne_eqb code 2 (λ e. omega (arith, e, h)))
    (rw (ne_eqb code 3 (λ e. omega (arith, e, h)))
    (rw (ne_eqb code 4 (λ e. omega (arith, e, h)))
    (rw (ne_eqb code 5 (λ e. omega (arith, e, h))))))

-- ---- every type: RC, and those that are not RC, of which the same is permitted as of UC

by_type : (P : ℕ → Type 0) → P rc → ((service : ℕ) → eqb service rc ≡ false → P service) → (service : ℕ) → P service
by_type P r o service = go (eqb service rc) refl
  where
    go : (b : Bool) → eqb service rc ≡ b → P service
    go true e = subst P (sym (eqb→eq service rc (subst T (sym e) tt))) r
    go false e = o service e

pub permits_as_uc : (code : ℕ) → AsUc (λ asked. permits asked code)
unfolding permits_write write_stops
permits_as_uc code (Command edge) service e = refl
permits_as_uc code (Engine to) service e = rw e

pub all_alike : (f g : Move → ℕ → Bool) → AsUc f → AsUc g → alike f g rc ≡ true → alike f g uc ≡ true
    → (asked : Move) (service : ℕ) → f asked service ≡ g asked service
all_alike f g f-uc g-uc r u asked service =
    by_type (λ x. f asked x ≡ g asked x) (at_type rc r) (λ x e. f-uc asked x e ∙ at_type uc u ∙ sym (g-uc asked x e)) service
  where
    at_type : (x : ℕ) → alike f g x ≡ true → f asked x ≡ g asked x
    at_type x t = agree _ _ (each_move (λ a. beq (f a x) (g a x)) t asked)

pub all_agree : (f : Move → ℕ → Bool) (code : ℕ) → AsUc f → agrees f code rc ≡ true → agrees f code uc ≡ true
    → (asked : Move) (service : ℕ) → f asked service ≡ permits asked code service
all_agree f code f-uc = all_alike f (λ asked. permits asked code) f-uc (permits_as_uc code)
