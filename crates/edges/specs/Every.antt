-- Rules over all moves, codes and types, as one computed test: what is tested of every move and code holds of each, and UC stands for every
-- type that is not RC.
use Rattle.std.specs.Prelude.{◌≡◌, Bool, true, false, List, [], ◌∷◌, ℕ, zero, suc, eqb}
use Rattle.std.specs.Bool.{beq}
use Rattle.words.specs.Choice.{both}
use Rattle.edges.specs.States.{rc, uc}
use Rattle.edges.specs.Edges.{permits}
use Rattle.edges.specs.declared.State.{State}
use Rattle.edges.specs.declared.State.TheVariants.{Reset, Init, Rtr, Rts, Sqe, Sqd, Err}
use Rattle.edges.specs.declared.Edge.{Edge}
use Rattle.edges.specs.declared.Edge.TheVariants.{ResetToInit, InitToInit, InitToRtr, RtrToRts, RtsToRts, SqeToRts}
use Rattle.edges.specs.declared.Edge.TheVariants.{RtsToSqd, SqdToSqd, SqdToRts, ToErr, ToReset}
use Rattle.edges.specs.declared.Move.{Move}
use Rattle.edges.specs.declared.Move.TheVariants.{Command, Engine}

-- ---- every move

-- the edges that a command can ask for, in the order of 01's table, and the states by their codes
abbrev pub every_edge : List Edge
every_edge =
    ResetToInit ∷ InitToInit ∷ InitToRtr ∷ RtrToRts ∷ RtsToRts ∷ SqeToRts ∷ RtsToSqd ∷ SqdToSqd ∷ SqdToRts ∷ ToErr ∷ ToReset ∷ []

abbrev pub every_state : List State
every_state = Reset ∷ Init ∷ Rtr ∷ Rts ∷ Sqe ∷ Sqd ∷ Err ∷ []

-- the test holds of every member
abbrev pub every : {A : Type 0} → (A → Bool) → List A → Bool
every p [] = true
every p (x ∷ xs) = both (p x) (every p xs)

abbrev pub every_move : (Move → Bool) → Bool
every_move p = both (every (λ e. p (Command e)) every_edge) (every (λ s. p (Engine s)) every_state)

-- ---- every code: the numbers below n, and above 6 nothing is permitted

abbrev pub every_below : ℕ → (ℕ → Bool) → Bool
every_below zero p = true
every_below (suc n) p = both (p n) (every_below n p)

-- a test of moves and types says the same of every type that is not RC
abbrev pub AsUc : (Move → ℕ → Bool) → Type 0
AsUc f = (asked : Move) (service : ℕ) → eqb service rc ≡ false → f asked service ≡ f asked uc

-- ---- the rule: two such tests are one if they agree on every move for RC and for UC
abbrev pub alike : (Move → ℕ → Bool) → (Move → ℕ → Bool) → ℕ → Bool
alike f g service = every_move (λ asked. beq (f asked service) (g asked service))

-- and so a test is `permits`
abbrev pub agrees : (Move → ℕ → Bool) → ℕ → ℕ → Bool
agrees f code service = alike f (λ asked. permits asked code) service
