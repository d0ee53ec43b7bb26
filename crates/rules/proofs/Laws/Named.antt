-- Laws about the definitions of specs/Laws/Named.antt.
use Rattle.std.specs.Prelude.{◌≡◌, refl, true, false, List, ℕ, ltb}
use Rattle.std.proofs.Common.{inl, inr, eqb-true}
use Rattle.std.proofs.lemmas.Bool.{not-true}
use Rattle.words.specs.Choice.{both}
use Rattle.words.proofs.Choice.{both_left, both_right}
use Rattle.context.specs.Layout.{count_of}
use Rattle.context.specs.declared.CqNumber.{CqNumber}
use Rattle.context.specs.declared.EqNumber.{EqNumber}
use Rattle.context.specs.declared.Kind.TheVariants as kind
use Rattle.context.specs.declared.Logs.{Logs}
use Rattle.context.specs.declared.QpNumber.{QpNumber}
use Rattle.context.specs.declared.Record.{Record}
use Rattle.context.specs.declared.Record.TheVariants as rec
use Rattle.requests.specs.declared.EngineRequest.{EngineRequest}
use Rattle.requests.specs.declared.EngineRequest.TheVariants as engine
use Rattle.requests.specs.declared.Request.{Request}
use Rattle.requests.specs.declared.Request.TheVariants as request
use Rattle.request_table.specs.Records.{records_of}
use Rattle.request_table.specs.Listed.{In}
use Rattle.mailboxes.specs.Mailboxes.{need_of}
use Rattle.checks.specs.Fields.{cq_named, eq_named}
use Rattle.rules.specs.Names.{read_joined, arguments_of, needed, found, lost, named_in}
use Rattle.rules.proofs.Laws.Found.{Alone}
use Rattle.rules.specs.Laws.Named.{Lost, fits, is_name, misses, no_cq, no_eq, trail_of}

-- the mailbox bytes that a slot's request needs are those of its arguments
pub need_arguments : (q : Request) → needed (arguments_of q) ≡ need_of q
need_arguments (request.Command c) = refl
need_arguments (request.Engine (engine.ReadState n)) = refl
need_arguments (request.Engine (engine.ReadNext n)) = refl
need_arguments (request.Engine (engine.ReadAll n)) = refl
need_arguments (request.Engine (engine.Write p s n psn)) = refl
need_arguments (request.Engine (engine.ReadJoined n c e)) = refl

-- what it is to fit, of a joined read: the queue pair is one, and the names are in range and stand in the records
pub record Names (qps cqs eqs : ℕ) (n : QpNumber) (c : CqNumber) (e : EqNumber) (s : Record → List ℕ) : Type 0 where
  pub in_qps : ltb n.0 qps ≡ true
  pub in_cqs : ltb c.0 cqs ≡ true
  pub in_eqs : ltb e.0 eqs ≡ true
  pub cq_named_lem : cq_named (s (rec.Qp n)) ≡ c.0
  pub eq_named_lem : eq_named (s (rec.Cq c)) ≡ e.0

pub fits_names : (qps cqs eqs : ℕ) (n : QpNumber) (c : CqNumber) (e : EqNumber) (s : Record → List ℕ)
    → fits qps cqs eqs (request.Engine (engine.ReadJoined n c e)) s ≡ true → Names qps cqs eqs n c e s
fits_names qps cqs eqs n c e s h = record {
  in_qps = both_left _ _ h;
  in_cqs = rw (← cq_is) (both_left _ _ a);
  in_eqs = rw (← eq_is) (both_left _ _ b);
  cq_named_lem = cq_is;
  eq_named_lem = eq_is;
}
  where
    both_names : both (is_name cqs (cq_named (s (rec.Qp n))) c.0) (is_name eqs (eq_named (s (rec.Cq c))) e.0) ≡ true
    both_names = both_right (ltb n.0 qps) _ h

    a : is_name cqs (cq_named (s (rec.Qp n))) c.0 ≡ true
    a = both_left _ _ both_names

    b : is_name eqs (eq_named (s (rec.Cq c))) e.0 ≡ true
    b = both_right (is_name cqs (cq_named (s (rec.Qp n))) c.0) _ both_names

    cq_is : cq_named (s (rec.Qp n)) ≡ c.0
    cq_is = eqb-true _ _ (both_right (ltb (cq_named (s (rec.Qp n))) cqs) _ a)

    eq_is : eq_named (s (rec.Cq c)) ≡ e.0
    eq_is = eqb-true _ _ (both_right (ltb (eq_named (s (rec.Cq c))) eqs) _ b)

-- ---- what fits is found, and what misses is lost

module _ (g : Logs) (s : Record → List ℕ) where
  abbrev qps : ℕ
  qps = count_of g kind.Qp

  abbrev cqs : ℕ
  cqs = count_of g kind.Cq

  abbrev eqs : ℕ
  eqs = count_of g kind.Eq

  pub fits_found : (q : Request) → fits qps cqs eqs q s ≡ true → named_in g s (arguments_of q) ≡ found q
  fits_found (request.Command c) e = refl
  fits_found (request.Engine (engine.ReadState n)) e = refl
  fits_found (request.Engine (engine.ReadNext n)) e = refl
  fits_found (request.Engine (engine.ReadAll n)) e = refl
  fits_found (request.Engine (engine.Write p t n psn)) e = refl
  fits_found (request.Engine (engine.ReadJoined n c x)) e =
      let f : Names qps cqs eqs n c x s = fits_names qps cqs eqs n c x s e in
      rw (f.cq_named_lem, f.in_cqs, f.eq_named_lem, f.in_eqs)

  pub misses_lost : (n : QpNumber) (t : Lost) → misses cqs eqs n t s ≡ true → named_in g s (read_joined n) ≡ lost
  misses_lost n no_cq e = let out : ltb (cq_named (s (rec.Qp n))) cqs ≡ false = not-true _ e in rw out
  misses_lost n (no_eq c) e =
      let a : is_name cqs (cq_named (s (rec.Qp n))) c.0 ≡ true = both_left _ _ e in
      let in_cqs : ltb (cq_named (s (rec.Qp n))) cqs ≡ true = both_left _ _ a in
      let cq_is : cq_named (s (rec.Qp n)) ≡ c.0 = eqb-true _ _ (both_right (ltb (cq_named (s (rec.Qp n))) cqs) _ a) in
      let out : ltb (eq_named (s (rec.Cq c))) eqs ≡ false =
      not-true _ (both_right (is_name cqs (cq_named (s (rec.Qp n))) c.0) _ e) in
      rw (in_cqs, cq_is, out)

-- a request on one record fits any
pub alone_fits : (qps cqs eqs : ℕ) (e : EngineRequest) (s : Record → List ℕ) → Alone e → fits qps cqs eqs (request.Engine e) s ≡ true
alone_fits qps cqs eqs (engine.ReadState n) s a = refl
alone_fits qps cqs eqs (engine.ReadNext n) s a = refl
alone_fits qps cqs eqs (engine.ReadAll n) s a = refl
alone_fits qps cqs eqs (engine.Write p t n psn) s a = refl
alone_fits qps cqs eqs (engine.ReadJoined n c e) s a = absurd a

-- ---- only the request's records are read, or those that were come to

pub fits_local : (qps cqs eqs : ℕ) (q : Request) (s u : Record → List ℕ) → ((X : Record) → In X (records_of q) → s X ≡ u X)
    → fits qps cqs eqs q s ≡ fits qps cqs eqs q u
fits_local qps cqs eqs (request.Command c) s u h = refl
fits_local qps cqs eqs (request.Engine (engine.ReadState n)) s u h = refl
fits_local qps cqs eqs (request.Engine (engine.ReadNext n)) s u h = refl
fits_local qps cqs eqs (request.Engine (engine.ReadAll n)) s u h = refl
fits_local qps cqs eqs (request.Engine (engine.Write p t n psn)) s u h = refl
fits_local qps cqs eqs (request.Engine (engine.ReadJoined n c e)) s u h = rw (h (rec.Qp n) (inl refl), h (rec.Cq c) (inr (inl refl)))

pub misses_local : (cqs eqs : ℕ) (n : QpNumber) (t : Lost) (s u : Record → List ℕ) → ((X : Record) → In X (trail_of n t) → s X ≡ u X)
    → misses cqs eqs n t s ≡ misses cqs eqs n t u
misses_local cqs eqs n no_cq s u h = rw (h (rec.Qp n) (inl refl))
misses_local cqs eqs n (no_eq c) s u h = rw (h (rec.Qp n) (inl refl), h (rec.Cq c) (inr (inl refl)))
