-- A request that is accepted is one that a slot's bytes can hold.
use Rattle.std.specs.Prelude.{◌≡◌, Bool, true, false, not, ℕ, ◌^◌, ◌≤◌, ◌<◌, eqb, ltb, leb, length, Option, Some, None, Result, Ok, Err}
use Rattle.std.proofs.Math.Path.{refl}
use mathlib.Core.List.{List, [], ◌∷◌}
use Rattle.std.proofs.Common.{lt_of_lt_of_le, lit<, lit≤, pow_mono}
use native.Mathlib.Omega.{arith}
use borrow.Author.Tests.{ltb-true, lt-ltb, leb-true}
use Rattle.words.specs.Choice.{both, either}
use Rattle.words.proofs.Choice.{by_pick, both_left, both_right, both_yes}
use Rattle.context.specs.Layout.{is_record, ranges_hold, count_of, log_of, kind_of, greatest_log}
use Rattle.context.specs.declared.CqNumber.{CqNumber}
use Rattle.context.specs.declared.Kind.{Kind}
use Rattle.context.specs.declared.Kind.TheVariants as kind
use Rattle.context.specs.declared.Logs.{Logs}
use Rattle.context.specs.declared.QpNumber.{QpNumber}
use Rattle.context.specs.declared.Record.{Record}
use Rattle.context.specs.declared.Record.TheVariants as rec
use Rattle.numbers.specs.Numbers.{qp_of}
use Rattle.requests.specs.Psns.{psn_fits}
use Rattle.requests.specs.declared.Command.{Command}
use Rattle.requests.specs.declared.EngineRequest.TheVariants as engine
use Rattle.requests.specs.declared.PsnField.{PsnField}
use Rattle.requests.specs.declared.Request.{Request}
use Rattle.requests.specs.declared.Request.TheVariants as request
use Rattle.commands.specs.Commands.{read_op, read_command}
use Rattle.commands.specs.declared.CommandAsked.{CommandAsked}
use Rattle.commands.specs.declared.Op.{Op}
use Rattle.commands.specs.declared.CommandAsked.TheVariants as asked
use Rattle.engines.specs.Engines.{read_number, state_from, write_found, engine_on, engine_at, read_engine}
use Rattle.engines.specs.declared.EngineNumber.{EngineNumber}
use Rattle.engines.specs.declared.EngineNumber.TheVariants as number
use Rattle.engines.specs.declared.EngineAsked.{EngineAsked}
use Rattle.request_table.specs.Records.{records_of, all_records, psn_holds, numbers_hold}
use Rattle.slot_requests.specs.Requests.{any_index}
use Rattle.mailboxes.specs.Mailboxes.{need_of}
use Rattle.contents.specs.Content.{content_holds}
use Rattle.holds.specs.Holds.{held_against, read_held}
use Rattle.hcr.specs.Register.{read_of}
use Rattle.hcr.specs.declared.HcrCommand.{HcrCommand}
use Rattle.hcr.specs.declared.ReadError.{ReadError}
use Rattle.hcr.specs.declared.ReadError.TheVariants as readError
use Rattle.context.specs.Init.{init_of}
use Rattle.context.specs.declared.EqNumber.{EqNumber}
use Rattle.context.specs.declared.InitError.{InitError}
use Rattle.context.specs.declared.InitError.TheVariants as initError
use Rattle.rules.specs.declared.Refusal.{Refusal}
use Rattle.rules.specs.World.{World, bad_lent, bad_state}
use Rattle.rules.specs.Names.{joins}
use Rattle.rules.specs.Admission.{decide_place, decide_verdict, decide_request}
use Rattle.rules.specs.Commands.{bad_system, busy, decide_init, decide_found, decide_op, decide_register, decide_command}
use Rattle.rules.specs.Engines.{decide_eq, decide_cq, decide_joined, decide_asked, decide_number, decide_engine}
use Rattle.rules.specs.declared.Decision.{Decision}
use Rattle.rules.specs.declared.Decision.TheVariants as decide
use Rattle.checks.specs.declared.Denial.{Denial}
use Rattle.edges.specs.declared.State.{State}

-- ---- its PSN fits 24 bits

-- of a decision that takes a slot
pub data PsnFits : Result Decision Refusal → Type 0 where
  refuses : {c : Refusal} → PsnFits (Err c)
  rests : PsnFits (Ok decide.Nothing)
  closes : PsnFits (Ok decide.Close)
  opens : {g : Logs} → PsnFits (Ok (decide.Open g))
  takes : {q : Request} {k : ℕ} → psn_holds q ≡ true → PsnFits (Ok (decide.Take q k))

module _ (w : World) where
  place_psn : (q : Request) → psn_holds q ≡ true → (f : Option ℕ) → PsnFits (decide_place q f)
  unfolding decide_place
  place_psn q h (Some k) = takes h
  place_psn q h None = refuses

  verdict_psn : (q : Request) → psn_holds q ≡ true → (v : Result (Unit {0}) Denial) → PsnFits (decide_verdict w q v)
  unfolding decide_verdict
  verdict_psn q h (Ok tt) = place_psn q h _
  verdict_psn q h (Err d) = refuses

  request_psn : (q : Request) (mail : List ℕ) → psn_holds q ≡ true → PsnFits (decide_request w q mail)
  unfolding decide_request
  request_psn q mail h =
      by_pick PsnFits (ltb (length mail) (need_of q)) _ _ (λ _. refuses)
      (λ _. by_pick PsnFits (not (content_holds q mail)) _ _ (λ _. refuses)
      (λ _. by_pick PsnFits (held_against w.row q) _ _ (λ _. refuses) (λ _. verdict_psn q h _)))

  -- a joined read has no PSN
  eq_psn : (n : QpNumber) (c : CqNumber) (f : Option EqNumber) → PsnFits (decide_eq w n c f)
  unfolding decide_eq
  eq_psn n c None = refuses
  eq_psn n c (Some e) =
      by_pick PsnFits (read_held w.row (rec.Eq e)) _ _ (λ _. refuses) (λ _. place_psn (joins n c e) refl _)

  cq_psn : (n : QpNumber) (f : Option CqNumber) → PsnFits (decide_cq w n f)
  unfolding decide_cq
  cq_psn n None = refuses
  cq_psn n (Some c) = by_pick PsnFits (read_held w.row (rec.Cq c)) _ _ (λ _. refuses) (λ _. eq_psn n c _)

  joined_psn : (n : QpNumber) → PsnFits (decide_joined w n)
  unfolding decide_joined
  joined_psn n = by_pick PsnFits (read_held w.row (rec.Qp n)) _ _ (λ _. refuses) (λ _. cq_psn n _)

  -- a write is found only with a PSN that fits
  abbrev Asks : Option EngineAsked → Type 0
  Asks f = PsnFits (decide_asked w f)

  write_psn : (p : PsnField) (n : QpNumber) (psn : ℕ) → psn_fits psn ≡ true → (s : Option State) → Asks (write_found p n psn s)
  unfolding decide_asked
  write_psn p n psn h (Some s) = request_psn (request.Engine (engine.Write p s n psn)) [] h
  write_psn p n psn h None = refuses

  on_psn : (k : EngineNumber) (n : QpNumber) (psn code : ℕ) → Asks (engine_on k n psn code)
  unfolding decide_asked
  on_psn number.ReadState n psn code = request_psn (request.Engine (engine.ReadState n)) [] refl
  on_psn number.ReadNext n psn code = request_psn (request.Engine (engine.ReadNext n)) [] refl
  on_psn number.ReadAll n psn code = request_psn (request.Engine (engine.ReadAll n)) [] refl
  on_psn number.ReadJoined n psn code = joined_psn n
  on_psn (number.Write p) n psn code =
      by_pick Asks (psn_fits psn) (write_found p n psn (state_from code)) None (λ h. write_psn p n psn h (state_from code)) (λ _. refuses)

  asked_psn : (k : EngineNumber) (f : Option QpNumber) (psn code : ℕ) → Asks (engine_at k f psn code)
  unfolding decide_asked
  asked_psn k (Some n) psn code = on_psn k n psn code
  asked_psn k None psn code = refuses

  number_psn : (index psn state : ℕ) (f : Option EngineNumber) → PsnFits (decide_number w index psn state f)
  unfolding decide_number read_engine
  number_psn index psn state (Some k) =
      by_pick PsnFits (not w.hca.«open») _ _ (λ _. refuses) (λ _. asked_psn k (qp_of w.hca.logs index) psn state)
  number_psn index psn state None = refuses

  pub engine_psn : (number index psn state : ℕ) → PsnFits (decide_engine w number index psn state)
  unfolding decide_engine
  engine_psn number index psn state =
      by_pick PsnFits (bad_lent w) _ _ (λ _. refuses)
      (λ _. by_pick PsnFits (bad_state w) _ _ (λ _. refuses) (λ _. number_psn index psn state _))

  -- a command has none
  init_psn : (f : Result Logs InitError) → PsnFits (decide_init f)
  unfolding decide_init
  init_psn (Ok g) = opens
  init_psn (Err initError.ShortMailbox) = refuses
  init_psn (Err initError.OutOfRange) = refuses

  found_psn : (mail : List ℕ) (f : Option CommandAsked) → PsnFits (decide_found w mail f)
  unfolding decide_found
  found_psn mail (Some asked.InitHca) = init_psn _
  found_psn mail (Some asked.CloseHca) = closes
  found_psn mail (Some asked.Nop) = rests
  found_psn mail (Some (asked.OnRecord c)) = request_psn (request.Command c) mail refl
  found_psn mail None = refuses

  op_psn : (mail : List ℕ) (c : HcrCommand) (f : Option Op) → PsnFits (decide_op w mail c f)
  unfolding decide_op
  op_psn mail c None = refuses
  op_psn mail c (Some o) =
      by_pick PsnFits (bad_system w.hca.«open» o) _ _ (λ _. refuses)
      (λ _. by_pick PsnFits (busy w.row o) _ _ (λ _. refuses) (λ _. found_psn mail _))

  register_psn : (mail : List ℕ) (r : Result HcrCommand ReadError) → PsnFits (decide_register w mail r)
  unfolding decide_register
  register_psn mail (Err readError.Short) = refuses
  register_psn mail (Err readError.Malformed) = refuses
  register_psn mail (Ok c) = by_pick PsnFits c.event _ _ (λ _. refuses) (λ _. op_psn mail c _)

  pub command_psn : (bytes mail : List ℕ) → PsnFits (decide_command w bytes mail)
  unfolding decide_command
  command_psn bytes mail =
      by_pick PsnFits (either (bad_lent w) (ltb (length bytes) 28)) _ _ (λ _. refuses)
      (λ _. by_pick PsnFits (bad_state w) _ _ (λ _. refuses) (λ _. register_psn mail _))

-- ---- its numbers are of 32 bits

module _ (g : Logs) (ranges : ranges_hold g ≡ true) where
  log_small : (k : Kind) → log_of g k ≤ 32
  unfolding ranges_hold
  log_small kind.Qp = omega (arith, leb-true g.qps 14 (both_left (leb g.qps 14) _ ranges))
  log_small kind.Cq =
      omega (arith, leb-true g.cqs 14 (both_left (leb g.cqs 14) _ (both_right (leb g.qps 14) _ ranges)))
  log_small kind.Eq =
      omega (
        arith,
        leb-true g.eqs 5
            (both_left (leb g.eqs 5) _ (both_right (leb g.cqs 14) _ (both_right (leb g.qps 14) _ ranges))),
      )
  log_small kind.Mpt =
      omega (
        arith,
        leb-true g.mpts 16
            (both_right (leb g.eqs 5) _ (both_right (leb g.cqs 14) _ (both_right (leb g.qps 14) _ ranges))),
      )

  widened : (n : ℕ) (k : Kind) → ltb n (2 ^ log_of g k) ≡ true → ltb n (2 ^ 32) ≡ true
  widened n k e = lt-ltb n (2 ^ 32) (lt_of_lt_of_le (ltb-true n (2 ^ log_of g k) e) (pow_mono (log_small k)))

  any_record : (X : Record) → is_record g X ≡ true → is_record any_index X ≡ true
  unfolding is_record
  any_record (rec.Qp n) e = widened n.0 kind.Qp e
  any_record (rec.Cq n) e = widened n.0 kind.Cq e
  any_record (rec.Eq n) e = widened n.0 kind.Eq e
  any_record (rec.Mpt n) e = widened n.0 kind.Mpt e

  any_records : (Xs : List Record) → all_records g Xs ≡ true → all_records any_index Xs ≡ true
  any_records [] e = refl
  any_records (X ∷ Xs) e =
      both_yes (is_record any_index X) (all_records any_index Xs)
      (any_record X (both_left (is_record g X) _ e)) (any_records Xs (both_right (is_record g X) _ e))

  pub request_fits : (q : Request) → all_records g (records_of q) ≡ true → psn_holds q ≡ true → numbers_hold any_index q ≡ true
  unfolding numbers_hold
  request_fits q a p = both_yes (all_records any_index (records_of q)) (psn_holds q) (any_records (records_of q) a) p
