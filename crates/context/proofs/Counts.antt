-- Logarithms within their ranges give counts and starts that no sum of the code wraps; and those that INIT_HCA accepts give records
-- that fit the store.
use Rattle.std.specs.Prelude.{◌≡◌, List, ◌++◌, true, ℕ, ◌*◌, ◌%◌, ◌^◌, ◌≤◌, ◌<◌, ltb, leb, length, get_or, Result, Ok, Err}
use Rattle.std.proofs.Common.{sym, ◌∙◌, ap, subst, one-mul, mod-eq_of_lt, lt_of_lt_of_le, arith, leb-true, lt-ltb, le-ltb, length-append, pow_mono}
use Rattle.std.proofs.Math.ListN.{get_or-append}
use Rattle.std.proofs.Math.Pow.{pow-lt}
use Rattle.words.proofs.Choice.{both_left, both_right, by_pick}
use Rattle.context.specs.Layout.{start_of, in_use, ranges_hold, fits_store}
use Rattle.context.specs.Init.{logs_of, init_rows, init_of}
use Rattle.context.specs.declared.Kind.{Kind}
use Rattle.context.specs.declared.Kind.TheVariants as kind
use Rattle.context.specs.declared.Logs.{Logs}
use Rattle.context.specs.declared.InitError.{InitError}
use Rattle.context.specs.declared.InitError.TheVariants as initError

-- a shift of 1 that keeps its bit
pub one_shifted : (log : ℕ) → log < 64 → 1 * 2 ^ log % 2 ^ 64 ≡ 2 ^ log
one_shifted log h = ap (λ (n : ℕ). n % 2 ^ 64) (one-mul (2 ^ log)) ∙ mod-eq_of_lt (pow-lt h)

-- a number of 32 bits is below every count of 2^32 and more
pub below_wide : (n log : ℕ) → n < 2 ^ 32 → 32 ≤ log → true ≡ ltb n (2 ^ log)
below_wide n log h k = sym (lt-ltb n (2 ^ log) (lt_of_lt_of_le h (pow_mono k)))

-- what the test of the ranges says
pub record Ranges (g : Logs) : Type 0 where
  pub qps : g.qps ≤ 14
  pub cqs : g.cqs ≤ 14
  pub eqs : g.eqs ≤ 5
  pub mpts : g.mpts ≤ 16

pub ranges : (g : Logs) → ranges_hold g ≡ true → Ranges g
unfolding ranges_hold
ranges g h =
    record {
      qps = leb-true g.qps 14 (both_left (leb g.qps 14) _ h);
      cqs = leb-true g.cqs 14 (both_left (leb g.cqs 14) _ (both_right (leb g.qps 14) _ h));
      eqs = leb-true g.eqs 5 (both_left (leb g.eqs 5) _ (both_right (leb g.cqs 14) _ (both_right (leb g.qps 14) _ h)));
      mpts = leb-true g.mpts 16 (both_right (leb g.eqs 5) _ (both_right (leb g.cqs 14) _ (both_right (leb g.qps 14) _ h)));
    }

-- each count is at most its greatest
pub record Small (g : Logs) : Type 0 where
  pub qps : 2 ^ g.qps ≤ 16384
  pub cqs : 2 ^ g.cqs ≤ 16384
  pub eqs : 2 ^ g.eqs ≤ 32
  pub mpts : 2 ^ g.mpts ≤ 65536

pub small : (g : Logs) → ranges_hold g ≡ true → Small g
small g h =
    let r : Ranges g = ranges g h in
    record { qps = pow_mono r.qps; cqs = pow_mono r.cqs; eqs = pow_mono r.eqs; mpts = pow_mono r.mpts }

pub in_use_small : (g : Logs) → ranges_hold g ≡ true → in_use g ≤ 9439232
in_use_small g h = let s : Small g = small g h in omega arith

pub start_small : (g : Logs) (k : Kind) → ranges_hold g ≡ true → start_of g k ≤ 5244928
start_small g kind.Qp h = omega arith
start_small g kind.Cq h = let s : Small g = small g h in omega arith
start_small g kind.Eq h = let s : Small g = small g h in omega arith
start_small g kind.Mpt h = let s : Small g = small g h in omega arith

-- an INIT_HCA that is accepted gives counts that are within their ranges and fit the store
pub init_accepted : (mailbox : List ℕ) (store : ℕ) (g : Logs) → init_of mailbox store ≡ Ok g → fits_store g store ≡ true
unfolding init_of init_rows
init_accepted mailbox store g =
    by_pick (λ (i : Result Logs InitError). i ≡ Ok g → fits_store g store ≡ true) (ltb (length mailbox) 64) _ _ (λ _ e. short e)
    (λ _. by_pick (λ (i : Result Logs InitError). i ≡ Ok g → fits_store g store ≡ true) (fits_store (logs_of mailbox) store) _ _
    (λ t e. let f : logs_of mailbox ≡ g = cc in subst (λ (h : Logs). fits_store h store ≡ true) f t)
    (λ _ e. wrong e))
  where
    short : Err initError.ShortMailbox ≡ Ok g → fits_store g store ≡ true
    short e = let z : ◌≡◌ {A = ℕ} 0 1 = cc in absurd (omega arith)

    wrong : Err initError.OutOfRange ≡ Ok g → fits_store g store ≡ true
    wrong e = let z : ◌≡◌ {A = ℕ} 0 1 = cc in absurd (omega arith)

pub init_ranges : (mailbox : List ℕ) (store : ℕ) (g : Logs) → init_of mailbox store ≡ Ok g → ranges_hold g ≡ true
unfolding fits_store
init_ranges mailbox store g e = both_left _ (leb (in_use g) store) (init_accepted mailbox store g e)

pub init_fits : (mailbox : List ℕ) (store : ℕ) (g : Logs) → init_of mailbox store ≡ Ok g → in_use g ≤ store
unfolding fits_store
init_fits mailbox store g e = leb-true _ _ (both_right (ranges_hold g) _ (init_accepted mailbox store g e))

-- INIT_HCA's reader does not look behind the 64 bytes that it needs (01, Commands)
logs_left : (mailbox tail : List ℕ) → 64 ≤ length mailbox → logs_of (mailbox ++ tail) ≡ logs_of mailbox
unfolding logs_of
logs_left mailbox tail h = rw (same 0x0f (omega arith), same 0x17 (omega arith), same 0x1f (omega arith), same 0x37 (omega arith))
  where
    same : (i : ℕ) → i < length mailbox → get_or (mailbox ++ tail) i 0 ≡ get_or mailbox i 0
    same i k = get_or-append mailbox tail 0 i k

pub init_left : (mailbox tail : List ℕ) (store : ℕ) → 64 ≤ length mailbox
    → init_of (mailbox ++ tail) store ≡ init_of mailbox store
unfolding init_of init_rows
init_left mailbox tail store h =
    rw (
      logs_left mailbox tail h,
      le-ltb (length mailbox) 64 h,
      le-ltb (length (mailbox ++ tail)) 64 (omega (arith, length-append mailbox tail)),
    )
