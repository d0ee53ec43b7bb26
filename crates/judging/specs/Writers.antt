-- The records that the slots passed write, which the scan keeps in a list of their own: a hold that only reads clashes with one before it
-- exactly if it has a record of that list.
use Rattle.std.specs.Prelude.{◌≡◌, refl, true, List, ℕ, zero, suc, ◌+◌, ◌≤◌, ◌<◌, length, get_or, set, replicate}
use Rattle.std.proofs.Common.{sym, ◌∙◌, ap, arith, length-set, get_or-set_same, get_or-set_other}
use Rattle.std.proofs.Math.Bool.{false}
use Rattle.std.proofs.Math.Decide.{ℕ_discrete, dec_lt}
use borrow.Author.Tests.{ne_eqb}
use Rattle.hold_codes.specs.Codes.{no_hold, has_code, holds_meet}
use Rattle.hold_codes.specs.declared.Hold.{Hold}

-- x is among the first n of the list
pub record Listed (written : List ℕ) (n x : ℕ) : Type 0 where
  pub place : ℕ
  pub below : place < n
  pub is : get_or written place 0 ≡ x

-- x is what one of the first k holds writes
pub record Writer (holds : List Hold) (k x : ℕ) : Type 0 where
  pub place : ℕ
  pub below : place < k
  pub is : (get_or holds place no_hold).written ≡ x
  pub some : ¬ (x ≡ 0)

-- the first n of the list are what the first k holds write, and no hold behind them writes
pub record Writers (holds : List Hold) (k : ℕ) (written : List ℕ) (n : ℕ) : Type 0 where
  pub all : length holds ≡ 8
  pub sized : length written ≡ 8
  pub few : n ≤ k
  pub each : (m : ℕ) → ¬ ((get_or holds m no_hold).written ≡ 0) → Listed written n (get_or holds m no_hold).written
  pub only : (l : ℕ) → l < n → Writer holds k (get_or written l 0)

nothing_held : (n m : ℕ) → get_or (replicate n no_hold) m no_hold ≡ no_hold
nothing_held zero m = refl
nothing_held (suc n) zero = refl
nothing_held (suc n) (suc m) = nothing_held n m

pub writers_none : (none : Hold) → none ≡ no_hold → Writers (replicate 8 none) 0 (replicate 8 0) 0
writers_none none e =
    rw e
    (record {
      all = refl;
      sized = refl;
      few = omega arith;
      each = λ m f. absurd (f (ap (λ (h : Hold). h.written) (nothing_held 8 m)));
      only = λ l h. absurd (omega arith);
    })

module _ {holds : List Hold} {k : ℕ} {written : List ℕ} {n : ℕ} (w : Writers holds k written n) where
  further : (j x : ℕ) → Writer holds k x → k ≤ j → Writer holds j x
  further j x y l = record { place = y.place; below = omega (arith, y.below); is = y.is; some = y.some }

  pub writers_free : Writers holds (k + 1) written n
  writers_free =
      record {
        all = w.all;
        sized = w.sized;
        few = omega (arith, w.few);
        each = w.each;
        only = λ l h. further (k + 1) (get_or written l 0) (w.only l h) (omega arith);
      }

  -- hold k becomes x
  module _ (x : Hold) (below : k < 8) where
    own : get_or (set holds k x) k no_hold ≡ x
    own = get_or-set_same holds k x no_hold (omega (arith, w.all))

    other : (m : ℕ) → ¬ (m ≡ k) → get_or (set holds k x) m no_hold ≡ get_or holds m no_hold
    other m f = get_or-set_other holds k m x no_hold f

    kept : (y : ℕ) → Writer holds k y → Writer (set holds k x) (k + 1) y
    kept y z =
        record {
          place = z.place;
          below = omega (arith, z.below);
          is = ap (λ (h : Hold). h.written) (other z.place (λ e. omega (arith, z.below))) ∙ z.is;
          some = z.some;
        }

    pub writers_read : x.written ≡ 0 → Writers (set holds k x) (k + 1) written n
    writers_read e =
        record {
          all = length-set holds k x ∙ w.all;
          sized = w.sized;
          few = omega (arith, w.few);
          each = λ m f. go m f (ℕ_discrete m k);
          only = λ l h. kept (get_or written l 0) (w.only l h);
        }
      where
        go : (m : ℕ) → ¬ ((get_or (set holds k x) m no_hold).written ≡ 0) → Dec (m ≡ k)
            → Listed written n (get_or (set holds k x) m no_hold).written
        go m f (yes y) =
            absurd (f (ap (λ (i : ℕ). (get_or (set holds k x) i no_hold).written) y ∙ ap (λ (h : Hold). h.written) own ∙ e))
        go m f (no y) = rw (other m y) (w.each m (λ z. f (ap (λ (h : Hold). h.written) (other m y) ∙ z)))

    pub writers_more : ¬ (x.written ≡ 0) → Writers (set holds k x) (k + 1) (set written n x.written) (n + 1)
    writers_more some =
        record {
          all = length-set holds k x ∙ w.all;
          sized = length-set written n x.written ∙ w.sized;
          few = omega (arith, w.few);
          each = λ m f. go m f (ℕ_discrete m k);
          only = λ l h. back l h (dec_lt l n);
        }
      where
        last : get_or (set written n x.written) n 0 ≡ x.written
        last = get_or-set_same written n x.written 0 (omega (arith, w.few, w.sized))

        longer : (y : ℕ) → Listed written n y → Listed (set written n x.written) (n + 1) y
        longer y z =
            record {
              place = z.place;
              below = omega (arith, z.below);
              is = get_or-set_other written n z.place x.written 0 (λ e. omega (arith, z.below)) ∙ z.is;
            }

        go : (m : ℕ) → ¬ ((get_or (set holds k x) m no_hold).written ≡ 0) → Dec (m ≡ k)
            → Listed (set written n x.written) (n + 1) (get_or (set holds k x) m no_hold).written
        go m f (yes y) =
            record {
              place = n;
              below = omega arith;
              is = last ∙ sym (ap (λ (i : ℕ). (get_or (set holds k x) i no_hold).written) y ∙ ap (λ (h : Hold). h.written) own);
            }
        go m f (no y) =
            rw (other m y)
            (longer (get_or holds m no_hold).written (w.each m (λ z. f (ap (λ (h : Hold). h.written) (other m y) ∙ z))))

        back : (l : ℕ) → l < n + 1 → Dec (l < n) → Writer (set holds k x) (k + 1) (get_or (set written n x.written) l 0)
        back l h (yes y) =
            rw (get_or-set_other written n l x.written 0 (λ e. omega arith)) (kept (get_or written l 0) (w.only l y))
        back l h (no y) =
            let z : l ≡ n = omega arith in
            rw (z, last)
            (record { place = k; below = omega arith; is = ap (λ (h : Hold). h.written) own; some = some })

  -- ---- a hold that only reads, against those before it

  module _ (x : Hold) (reads : x.written ≡ 0) where
    pub read_clear : ((l : ℕ) → l < n → has_code x (get_or written l 0) ≡ false) → (m : ℕ) → holds_meet x (get_or holds m no_hold) ≡ false
    unfolding holds_meet
    read_clear f m = go (ℕ_discrete (get_or holds m no_hold).written 0)
      where
        go : Dec ((get_or holds m no_hold).written ≡ 0) → holds_meet x (get_or holds m no_hold) ≡ false
        go (yes y) = rw (reads, y)
        go (no y) =
            let z = w.each m y in
            rw (reads, ne_eqb (get_or holds m no_hold).written 0 y) (ap (has_code x) (sym z.is) ∙ f z.place z.below)

    pub read_met : (l : ℕ) (h : l < n) → has_code x (get_or written l 0) ≡ true
        → holds_meet x (get_or holds (w.only l h).place no_hold) ≡ true
    unfolding holds_meet
    read_met l h e =
        let z = w.only l h in
        rw (reads, z.is, ne_eqb (get_or written l 0) 0 z.some) e

-- ---- a hold that writes

pub write_meets : (x y : Hold) → ¬ (x.written ≡ 0) → holds_meet x y ≡ has_code y x.written
unfolding holds_meet
write_meets x y f = rw (ne_eqb x.written 0 f)
