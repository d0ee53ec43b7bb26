-- A list of eight is its eight elements: what holds of every eight elements holds of it, and eight stores leave just what was stored.
use Rattle.std.specs.Prelude.{◌≡◌, refl, ℕ, zero, suc, List, [], ◌∷◌, length, set}
use Rattle.std.proofs.Common.{arith, get_or}

-- what holds of every eight elements holds of every list of eight
pub eight_ind : {X : Type 0} (P : List X → Type 0) → ((a b c d e f g h : X) → P (a ∷ b ∷ c ∷ d ∷ e ∷ f ∷ g ∷ h ∷ [])) → (ys : List X)
    → length ys ≡ 8 → P ys
eight_ind P k [] l = absurd (omega (arith, l))
eight_ind P k (a ∷ []) l = absurd (omega (arith, l))
eight_ind P k (a ∷ b ∷ []) l = absurd (omega (arith, l))
eight_ind P k (a ∷ b ∷ c ∷ []) l = absurd (omega (arith, l))
eight_ind P k (a ∷ b ∷ c ∷ d ∷ []) l = absurd (omega (arith, l))
eight_ind P k (a ∷ b ∷ c ∷ d ∷ e ∷ []) l = absurd (omega (arith, l))
eight_ind P k (a ∷ b ∷ c ∷ d ∷ e ∷ f ∷ []) l = absurd (omega (arith, l))
eight_ind P k (a ∷ b ∷ c ∷ d ∷ e ∷ f ∷ g ∷ []) l = absurd (omega (arith, l))
eight_ind P k (a ∷ b ∷ c ∷ d ∷ e ∷ f ∷ g ∷ h ∷ []) l = k a b c d e f g h
eight_ind P k (a ∷ b ∷ c ∷ d ∷ e ∷ f ∷ g ∷ h ∷ i ∷ t) l = absurd (omega (arith, l))

-- the first k elements stored, one by one
abbrev pub stored : {X : Type 0} → X → List X → List X → ℕ → List X
stored d ys v zero = ys
stored d ys v (suc k) = set (stored d ys v k) k (get_or v k d)

pub stored_all : {X : Type 0} (d : X) (ys v : List X) → length ys ≡ 8 → length v ≡ 8 → stored d ys v 8 ≡ v
stored_all d ys v l m =
    eight_ind (λ zs. stored d zs v 8 ≡ v)
    (λ a b c e f g h i. eight_ind (λ w. stored d (a ∷ b ∷ c ∷ e ∷ f ∷ g ∷ h ∷ i ∷ []) w 8 ≡ w) (λ _ _ _ _ _ _ _ _. refl) v m) ys l
