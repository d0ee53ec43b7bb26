-- The front of a list of nine that is lent, when n are asked for: the first `min n 9`. What comes back, zs, is as long, and stands before
-- what was not lent.
use Rattle.std.specs.Prelude.{◌≡◌, refl, List, [], ◌∷◌, ◌++◌, ℕ, zero, suc, ◌≤◌, min, length, take, drop}
use Rattle.std.proofs.Common.{sym, ap, subst, ◌∙◌, length-take-le}
use Rattle.std.proofs.Math.Nat.{zero-min, min-zero, suc-min-suc, min-le_right}
use Rattle.std.proofs.Math.Seq.{length_front}

module _ {X : Type 0} where
  take_min : (n : ℕ) (l : List X) → take (min n (length l)) l ≡ take n l
  take_min zero l = ap (λ (m : ℕ). take m l) (zero-min (length l))
  take_min (suc n) [] = ap (λ (m : ℕ). let e : List X = [] in take m e) (min-zero (suc n))
  take_min (suc n) (x ∷ l) = ap (λ (m : ℕ). take m (x ∷ l)) (suc-min-suc n (length l)) ∙ ap (λ (t : List X). x ∷ t) (take_min n l)

  drop_min : (n : ℕ) (l : List X) → drop (min n (length l)) l ≡ drop n l
  drop_min zero l = ap (λ (m : ℕ). drop m l) (zero-min (length l))
  drop_min (suc n) [] = ap (λ (m : ℕ). let e : List X = [] in drop m e) (min-zero (suc n))
  drop_min (suc n) (x ∷ l) = ap (λ (m : ℕ). drop m (x ∷ l)) (suc-min-suc n (length l)) ∙ drop_min n l

  take_front : (e d : List X) → take (length e) (e ++ d) ≡ e
  take_front [] d = refl
  take_front (x ∷ e) d = ap (λ (l : List X). x ∷ l) (take_front e d)

  drop_front : (e d : List X) → drop (length e) (e ++ d) ≡ d
  drop_front [] d = refl
  drop_front (x ∷ e) d = drop_front e d

  module _ (n : ℕ) (ys : List X) (nine : length ys ≡ 9) where
    -- the front that is lent is the first n elements
    pub lent_front : take (min n 9) ys ≡ take n ys
    lent_front = subst (λ (k : ℕ). take (min n k) ys ≡ take n ys) nine (take_min n ys)

    pub lent_back : drop (min n 9) ys ≡ drop n ys
    lent_back = subst (λ (k : ℕ). drop (min n k) ys ≡ drop n ys) nine (drop_min n ys)

    pub long_lent : length (take (min n 9) ys) ≡ min n 9
    long_lent = length-take-le (min n 9) ys (subst (λ (k : ℕ). min n 9 ≤ k) (sym nine) (min-le_right n 9))

    module _ (zs : List X) (long : length zs ≡ length (take (min n 9) ys)) where
      -- the row afterwards
      pub whole_nine : length (zs ++ drop (min n 9) ys) ≡ 9
      whole_nine = length_front ys zs (min n 9) long ∙ nine

      min_long : min n (length (zs ++ drop (min n 9) ys)) ≡ length zs
      min_long = ap (min n) whole_nine ∙ sym (long ∙ long_lent)

      -- its first n elements are what came back, and those behind them are as they were
      pub front_back : take n (zs ++ drop (min n 9) ys) ≡ zs
      front_back =
          sym (take_min n (zs ++ drop (min n 9) ys))
          ∙ ap (λ (m : ℕ). take m (zs ++ drop (min n 9) ys)) min_long ∙ take_front zs (drop (min n 9) ys)

      pub back_stays : drop n (zs ++ drop (min n 9) ys) ≡ drop n ys
      back_stays =
          sym (drop_min n (zs ++ drop (min n 9) ys))
          ∙ ap (λ (m : ℕ). drop m (zs ++ drop (min n 9) ys)) min_long ∙ drop_front zs (drop (min n 9) ys) ∙ lent_back
