-- What the stages of a joined read ask for, and that the stages before them give it.
use Rattle.std.specs.Prelude.{◌≡◌, true, List, ℕ, ltb, Option, Some, None, Result}
use Rattle.std.proofs.Common.{sym, ◌∙◌, ap, subst}
use Rattle.words.proofs.Choice.{by_pick}
use Rattle.context.specs.Layout.{is_record, count_of, ranges_hold}
use Rattle.context.specs.declared.CqNumber.{CqNumber}
use Rattle.context.specs.declared.Kind.TheVariants as kind
use Rattle.context.specs.declared.Logs.{Logs}
use Rattle.context.specs.declared.QpNumber.{QpNumber}
use Rattle.context.specs.declared.Record.{Record}
use Rattle.context.specs.declared.Record.TheVariants as rec
use Rattle.context.specs.declared.EqNumber.{EqNumber}
use Rattle.numbers.specs.Numbers.{cq_of, eq_of}
use Rattle.records.specs.Memory.{memory, Fits}
use Rattle.rules.specs.World.{World}
use Rattle.rules.specs.Engines.{decide_eq, decide_cq}
use Rattle.rules.specs.declared.Decision.{Decision}
use Rattle.rules.specs.declared.Refusal.{Refusal}

-- the memory has the record
pub record Has (g : Logs) (store : List ℕ) (X : Record) : Type 0 where
  pub ranges : ranges_hold g ≡ true
  pub valid : is_record g X ≡ true
  pub fits : Fits g (memory store)

-- the memory has the completion queue that is found
pub record CqStored (g : Logs) (store : List ℕ) (f : Option CqNumber) : Type 0 where
  pub stored : (c : CqNumber) → f ≡ Some c → Has g store (rec.Cq c)

-- a completion queue that is found is a record of the store
abbrev IsCq : Logs → Option CqNumber → Type 0
IsCq g (Some c) = is_record g (rec.Cq c) ≡ true
IsCq g None = Unit {0}

cq_valid : (g : Logs) (n : ℕ) → IsCq g (cq_of g n)
unfolding is_record
cq_valid g n = by_pick (IsCq g) (ltb n (count_of g kind.Cq)) _ _ (λ t. t) (λ _. tt)

-- as the queue pair before it, and the call that read its number
pub cq_stored : (g : Logs) (store : List ℕ) (X : Record) (n : ℕ) (f : Option CqNumber) → Has g store X → f ≡ cq_of g n → CqStored g store f
cq_stored g store X n f h e =
    record {
      stored = λ c i. record { ranges = h.ranges; valid = subst (IsCq g) (sym e ∙ i) (cq_valid g n); fits = h.fits };
    }

-- ---- the stages, at the name that the calls before them read

module _ (w : World) (n : QpNumber) where
  pub cq_told : (name x : ℕ) (f : Option CqNumber) (r : Result Decision Refusal) → name ≡ x → f ≡ cq_of w.hca.logs name → r ≡ decide_cq w n f
      → r ≡ decide_cq w n (cq_of w.hca.logs x)
  cq_told name x f r i e d = d ∙ ap (decide_cq w n) (e ∙ rw i)

  pub eq_told : (c : CqNumber) (name x : ℕ) (f : Option EqNumber) (r : Result Decision Refusal) → name ≡ x → f ≡ eq_of w.hca.logs name
      → r ≡ decide_eq w n c f → r ≡ decide_eq w n c (eq_of w.hca.logs x)
  eq_told c name x f r i e d = d ∙ ap (decide_eq w n c) (e ∙ rw i)
