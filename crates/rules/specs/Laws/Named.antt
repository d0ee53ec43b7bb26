-- The laws of names. A slot's request fits some records if they have the names that it holds; a joined read misses where one that it comes
-- to is out of range. Both are asked of names that are given, so that nothing is read but the records that they lead to.
use Rattle.std.specs.Prelude.{Bool, true, not, List, [], ◌∷◌, ℕ, eqb, ltb}
use Rattle.words.specs.Choice.{both}
use Rattle.context.specs.declared.CqNumber.{CqNumber}
use Rattle.context.specs.declared.QpNumber.{QpNumber}
use Rattle.context.specs.declared.Record.{Record}
use Rattle.context.specs.declared.Record.TheVariants as rec
use Rattle.requests.specs.declared.EngineRequest.{EngineRequest}
use Rattle.requests.specs.declared.EngineRequest.TheVariants as engine
use Rattle.requests.specs.declared.Request.{Request}
use Rattle.requests.specs.declared.Request.TheVariants as request
use Rattle.checks.specs.Fields.{cq_named, eq_named}

-- ---- names that are given, of so many queue pairs, completion queues and event queues

-- the name is in range, and is this one
abbrev pub is_name : ℕ → ℕ → ℕ → Bool
is_name count name n = both (ltb name count) (eqb name n)

abbrev pub fits_engine : ℕ → ℕ → ℕ → EngineRequest → (Record → List ℕ) → Bool
fits_engine qps cqs eqs (engine.ReadState n) s = true
fits_engine qps cqs eqs (engine.ReadNext n) s = true
fits_engine qps cqs eqs (engine.ReadAll n) s = true
fits_engine qps cqs eqs (engine.Write p t n psn) s = true
fits_engine qps cqs eqs (engine.ReadJoined n c e) s =
    both (ltb n.0 qps) (both (is_name cqs (cq_named (s (rec.Qp n))) c.0) (is_name eqs (eq_named (s (rec.Cq c))) e.0))

abbrev pub fits : ℕ → ℕ → ℕ → Request → (Record → List ℕ) → Bool
fits qps cqs eqs (request.Command c) s = true
fits qps cqs eqs (request.Engine e) s = fits_engine qps cqs eqs e s

-- where a joined read ends that finds a name out of range, and the records that it came to
pub data Lost : Type 0 where
  no_cq : Lost
  no_eq : CqNumber → Lost

abbrev pub trail_of : QpNumber → Lost → List Record
trail_of n no_cq = rec.Qp n ∷ []
trail_of n (no_eq c) = rec.Qp n ∷ rec.Cq c ∷ []

abbrev pub misses : ℕ → ℕ → QpNumber → Lost → (Record → List ℕ) → Bool
misses cqs eqs n no_cq s = not (ltb (cq_named (s (rec.Qp n))) cqs)
misses cqs eqs n (no_eq c) s = both (is_name cqs (cq_named (s (rec.Qp n))) c.0) (not (ltb (eq_named (s (rec.Cq c))) eqs))
