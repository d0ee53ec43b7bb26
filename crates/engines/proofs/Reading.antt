-- Reading an engine request, in 01's words: which numbers are served, and when a request is found and which it is.
use Rattle.std.specs.Prelude.{◌≡◌, refl, true, false, ℕ, zero, suc, ◌≤◌, ◌<◌, eqb, ltb, leb, Option, None}
use Rattle.std.proofs.Common.{sym, ◌∙◌, inr, zero-le, arith, ne_eqb}
use Rattle.std.proofs.Math.Path.{ap}
use Rattle.std.proofs.lemmas.Bool.{lt-leb}
use Rattle.words.proofs.Tests.{within_no}
use Rattle.words.specs.Choice.{pick}
use Rattle.words.proofs.Choice.{by_pick, pick_ap, pick_both, pick_yes, pick_no}
use Rattle.context.specs.Layout.{count_of}
use Rattle.context.specs.declared.Kind.TheVariants as kind
use Rattle.context.specs.declared.Logs.{Logs}
use Rattle.context.specs.declared.QpNumber.{QpNumber}
use Rattle.edges.specs.States.{state_code}
use Rattle.engines.specs.declared.EngineNumber.{EngineNumber}
use Rattle.engines.specs.declared.EngineNumber.TheVariants as number
use Rattle.engines.specs.Engines.{read_number, is_numbered, number_found_number, state_from, state_at, write_found, engine_on}
use Rattle.engines.specs.Engines.{engine_at, read_engine}
use Rattle.engines.specs.Engines.{fields_right, engine_right, request_on, engine_found_number}
use Rattle.engines.specs.declared.EngineAsked.{EngineAsked}

-- a number is none of those below it
none_below : (n k : ℕ) → k < n → eqb n k ≡ false
none_below n k h = ne_eqb n k (λ e. omega arith)

-- the number of a request number is 0 if it is one of 1 to 7, and else 2
pub number_number : (n : ℕ) → number_found_number (read_number n) ≡ pick (is_numbered n) 0 2
unfolding read_number is_numbered
number_number zero = refl
number_number (suc zero) = refl
number_number (suc (suc zero)) = refl
number_number (suc (suc (suc zero))) = refl
number_number (suc (suc (suc (suc zero)))) = refl
number_number (suc (suc (suc (suc (suc zero))))) = refl
number_number (suc (suc (suc (suc (suc (suc zero)))))) = refl
number_number (suc (suc (suc (suc (suc (suc (suc zero))))))) = refl
number_number (suc (suc (suc (suc (suc (suc (suc (suc n)))))))) = above (suc (suc (suc (suc (suc (suc (suc (suc n)))))))) (omega arith)
  where
    above : (m : ℕ) → 7 < m → number_found_number (read_number m) ≡ pick (is_numbered m) 0 2
    above m h =
        rw (
          none_below m 1 (omega arith),
          none_below m 2 (omega arith),
          none_below m 3 (omega arith),
          none_below m 4 (omega arith),
          none_below m 5 (omega arith),
          none_below m 6 (omega arith),
          none_below m 7 (omega arith),
          within_no 1 7 m (inr h),
        )

-- an answer that is what the definition gives has its number
pub number_answer : (r : Option EngineNumber) (n : ℕ) → r ≡ read_number n
    → (r ≡ read_number n) × (number_found_number r ≡ pick (is_numbered n) 0 2)
number_answer r n e = (e, ap number_found_number e ∙ number_number n)

past : (code k : ℕ) → ¬ (code ≡ k) → k ≤ code → k < code
past code k n h = omega arith

-- a code that is none of 0 to 6 is no state, as the reader's match has it
pub no_state : (code : ℕ) → ¬ (code ≡ 0) → ¬ (code ≡ 1) → ¬ (code ≡ 2) → ¬ (code ≡ 3) → ¬ (code ≡ 4) → ¬ (code ≡ 5) → ¬ (code ≡ 6)
    → None ≡ state_from code
unfolding state_from
no_state code a b c d e f g =
    pick_no _ _ _ _ (lt-leb code 6 (past code 6 g
    (past code 5 f (past code 4 e (past code 3 d (past code 2 c (past code 1 b (past code 0 a zero-le)))))))) refl

-- the state of a code has that code
pub state_code_lem : (code : ℕ) → code ≤ 6 → state_code (state_at code) ≡ code
state_code_lem zero h = refl
state_code_lem (suc zero) h = refl
state_code_lem (suc (suc zero)) h = refl
state_code_lem (suc (suc (suc zero))) h = refl
state_code_lem (suc (suc (suc (suc zero)))) h = refl
state_code_lem (suc (suc (suc (suc (suc zero))))) h = refl
state_code_lem (suc (suc (suc (suc (suc (suc zero)))))) h = refl
state_code_lem (suc (suc (suc (suc (suc (suc (suc n))))))) h = absurd (omega arith)

engine_is : (k : EngineNumber) (n psn code : ℕ)
    → engine_on k (record { 0 = n }) psn code ≡ pick (fields_right k psn code) (request_on k n psn code) None
unfolding state_from
engine_is number.ReadState n psn code = refl
engine_is number.ReadNext n psn code = refl
engine_is number.ReadAll n psn code = refl
engine_is number.ReadJoined n psn code = refl
engine_is (number.Write p) n psn code =
    ap (λ (f : Option EngineAsked). pick (leb psn 0xffffff) f None) (pick_ap (write_found p (record { 0 = n }) psn) (leb code 6) _ _)
    ∙ pick_both (leb psn 0xffffff) (leb code 6) _ _

-- what is asked for has no number
asked_number : (k : EngineNumber) (n psn code : ℕ) → engine_found_number (request_on k n psn code) ≡ 0
asked_number number.ReadState n psn code = refl
asked_number number.ReadNext n psn code = refl
asked_number number.ReadAll n psn code = refl
asked_number (number.Write p) n psn code = refl
asked_number number.ReadJoined n psn code = refl

module _ (g : Logs) (k : EngineNumber) (index psn code : ℕ) where
  -- the whole of reading: the request on that number if index, PSN and state are right, and else nothing (01, Engine requests)
  pub engine_read : read_engine g k index psn code ≡ pick (engine_right g k index psn code) (request_on k index psn code) None
  unfolding read_engine engine_right
  engine_read =
      pick_ap (λ (f : Option QpNumber). engine_at k f psn code) (ltb index (count_of g kind.Qp)) _ _
      ∙ ap (λ (f : Option EngineAsked). pick (ltb index (count_of g kind.Qp)) f None) (engine_is k index psn code)
      ∙ pick_both (ltb index (count_of g kind.Qp)) (fields_right k psn code) _ _

  -- its number is 0 if they are right, and else 3
  pub engine_number_lem : engine_found_number (read_engine g k index psn code) ≡ pick (engine_right g k index psn code) 0 3
  engine_number_lem =
      ap engine_found_number engine_read ∙ pick_ap engine_found_number (engine_right g k index psn code) _ _
      ∙ ap (λ (n : ℕ). pick (engine_right g k index psn code) n 3) (asked_number k index psn code)

  -- what is right is found
  pub engine_found : engine_right g k index psn code ≡ true → read_engine g k index psn code ≡ request_on k index psn code
  engine_found h = engine_read ∙ sym (pick_yes (engine_right g k index psn code) _ _ _ h refl)

  -- what is found is right, and is that request on that number
  pub engine_right_lem : (f : Option EngineAsked) → read_engine g k index psn code ≡ f → ¬ (f ≡ None)
      → (engine_right g k index psn code ≡ true) × (f ≡ request_on k index psn code)
  engine_right_lem f e some =
      by_pick
      (λ (x : Option EngineAsked). read_engine g k index psn code ≡ x
      → (engine_right g k index psn code ≡ true) × (f ≡ request_on k index psn code))
      (engine_right g k index psn code) _ None
      (λ h i. (h, sym e ∙ i))
      (λ h i. absurd (some (sym e ∙ i)))
      engine_read

-- an answer that is what the definition gives has its number
pub engine_answer_lem : (r : Option EngineAsked) (g : Logs) (k : EngineNumber) (index psn code : ℕ) → r ≡ read_engine g k index psn code
    → (r ≡ read_engine g k index psn code) × (engine_found_number r ≡ pick (engine_right g k index psn code) 0 3)
engine_answer_lem r g k index psn code e = (e, ap engine_found_number e ∙ engine_number_lem g k index psn code)
