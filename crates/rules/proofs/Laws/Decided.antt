-- Laws about the definitions of specs/Laws/Decided.antt.
use Rattle.std.specs.Prelude.{◌≡◌, Bool, true, false, not, ℕ, eqb, ltb, length, Option, Some, None, Result, Ok, Err}
use Rattle.std.proofs.Math.Path.{refl}
use Rattle.std.proofs.Common.{sym, ◌∙◌, ap, inl, inr, arith}
use mathlib.Core.List.{List, []}
use borrow.Author.Tests.{not-false, ltb-false, eq-eqb}
use Rattle.words.specs.Choice.{both, either}
use Rattle.words.proofs.Choice.{by_pick, both_yes}
use Rattle.words.proofs.Tests.{neither_left, neither_right}
use Rattle.hcr.specs.Register.{read_of}
use Rattle.hcr.specs.declared.HcrCommand.{HcrCommand}
use Rattle.hcr.specs.declared.ReadError.{ReadError}
use Rattle.hcr.specs.declared.ReadError.TheVariants as readError
use Rattle.context.specs.Layout.{is_record}
use Rattle.context.specs.Init.{init_of}
use Rattle.context.specs.declared.CqNumber.{CqNumber}
use Rattle.context.specs.declared.EqNumber.{EqNumber}
use Rattle.context.specs.declared.QpNumber.{QpNumber}
use Rattle.context.specs.declared.Record.{Record}
use Rattle.context.specs.declared.Record.TheVariants as rec
use Rattle.context.specs.declared.InitError.{InitError}
use Rattle.context.specs.declared.Logs.{Logs}
use Rattle.context.specs.declared.InitError.TheVariants as initError
use Rattle.numbers.specs.Numbers.{cq_of, eq_of}
use Rattle.requests.specs.declared.EngineRequest.{EngineRequest}
use Rattle.requests.specs.declared.EngineRequest.TheVariants as requested
use Rattle.requests.specs.declared.Request.{Request}
use Rattle.requests.specs.declared.Request.TheVariants as request
use Rattle.commands.specs.Commands.{read_op, read_command}
use Rattle.commands.specs.declared.Op.{Op}
use Rattle.commands.specs.declared.CommandAsked.{CommandAsked}
use Rattle.engines.specs.Engines.{read_number, read_engine}
use Rattle.engines.specs.declared.EngineAsked.{EngineAsked}
use Rattle.engines.specs.declared.EngineNumber.{EngineNumber}
use Rattle.engines.specs.declared.EngineAsked.TheVariants as asked
use Rattle.request_table.specs.Records.{engine_record, records_of, all_records}
use Rattle.request_table.specs.Listed.{In}
use Rattle.mailboxes.specs.Mailboxes.{need_of}
use Rattle.contents.specs.Content.{content_holds}
use Rattle.checks.specs.Fields.{cq_named, eq_named}
use Rattle.checks.specs.declared.Denial.{Denial}
use Rattle.records.specs.Memory.{record_in, permission_in}
use Rattle.slots.specs.Slots.{is_occupied, has_command}
use Rattle.rows.specs.Rows.{any_slot, lowest_free}
use Rattle.holds.specs.Holds.{held_against, read_held}
use Rattle.holds.proofs.Laws.{held_joined}
use Rattle.rules.specs.declared.Refusal.TheVariants as cause
use Rattle.rules.specs.World.{World, store_length, bad_lent, bad_state}
use Rattle.rules.specs.Names.{arguments_of, read_joined, joins}
use Rattle.rules.specs.Admission.{decide_place, decide_verdict, decide_request}
use Rattle.rules.specs.Commands.{decide_init, decide_found, bad_system, busy, decide_op, decide_register, decide_command}
use Rattle.rules.specs.Engines.{decide_eq, decide_cq, decide_joined, decide_asked, decide_number, decide_engine}
use Rattle.rules.specs.Calls.{Asked, asks_init, asks_request, found_asked, op_asked}
use Rattle.rules.specs.Calls.{register_asked, command_asked, engine_found_asked, number_asked, engine_asked}
use Rattle.rules.proofs.Laws.Found.{Reads, wrong, init as initReads, close, nop, on_record, command_reads, Alone, Valid, engine_valid}
use Rattle.rules.specs.Laws.Named.{no_cq, no_eq, trail_of}
use Rattle.rules.proofs.Laws.Named.{alone_fits}
use Rattle.rules.specs.Laws.Decided.{Asking, Decided, Judging, Missing, Passing, closes, cqs_of, denied, eqs_of, misnamed, opens, plain, qps_of, rests, takes}
use Rattle.rules.specs.declared.Decision.{Decision}
use Rattle.rules.specs.declared.Refusal.{Refusal}

-- ---- a request on a record

module _ (w : World) (mail : List ℕ) (q : Request) (a : Asking w q) where
  abbrev Ends : Result Decision Refusal → Type 0
  Ends d = Decided w mail (asks_request (arguments_of q)) d

  pub placed : Judging w q mail → permission_in w.hca.logs w.memory q ≡ Ok tt
      → (f : Option ℕ) → lowest_free 0 w.row ≡ f → Ends (decide_place q f)
  unfolding decide_place
  placed j p (Some k) e = takes j p e
  placed j p None e = plain cause.Full refl

  judged : Judging w q mail → (v : Result (Unit {0}) Denial) → permission_in w.hca.logs w.memory q ≡ v → Ends (decide_verdict w q v)
  unfolding decide_verdict
  judged j (Ok tt) e = placed j e (lowest_free 0 w.row) refl
  judged j (Err d) e = denied j e

  pub request_decided : Ends (decide_request w q mail)
  unfolding decide_request
  request_decided =
      by_pick Ends (ltb (length mail) (need_of q)) _ _ (λ _. plain cause.ShortMailbox refl)
      (λ n. by_pick Ends (not (content_holds q mail)) _ _ (λ _. plain cause.BadContent refl)
      (λ c. by_pick Ends (held_against w.row q) _ _ (λ _. plain cause.Held refl)
      (λ h. judged (record {
        asking = a;
        enough = ltb-false (length mail) (need_of q) n;
        content = not-false (content_holds q mail) c;
        free = h;
      }) (permission_in w.hca.logs w.memory q) refl)))

-- ---- a command

is_open : (b : Bool) → not b ≡ false → b ≡ true
is_open b e = not-false b e

module _ (w : World) (mail : List ℕ) (p : Passing w) where
  init_decided : w.hca.«open» ≡ false → (i : Result Logs InitError) → init_of mail (store_length w) ≡ i → Decided w mail asks_init (decide_init i)
  unfolding decide_init
  init_decided o (Ok g) e = opens p o e
  init_decided o (Err initError.ShortMailbox) e = plain cause.ShortMailbox refl
  init_decided o (Err initError.OutOfRange) e = plain cause.BadContent refl

  found_decided : (o : Op) → bad_system w.hca.«open» o ≡ false → busy w.row o ≡ false
      → (f : Option CommandAsked) → Reads w.hca.logs o f → Decided w mail (found_asked f) (decide_found w mail f)
  unfolding decide_found busy
  found_decided o s b f wrong = plain cause.BadParameter refl
  found_decided o s b f initReads = init_decided s (init_of mail (store_length w)) refl
  found_decided o s b f close = closes (is_open w.hca.«open» s)
      (neither_right (any_slot has_command w.row) (any_slot is_occupied w.row) b)
  found_decided o s b f nop = rests
  found_decided o s b f (on_record {c = c} n v) =
      request_decided w mail (request.Command c) (record {
        passing = p;
        opened = is_open w.hca.«open» (sym (n w.hca.«open») ∙ s);
        valid = v;
        all = both_yes _ _ v refl;
        named = refl;
      })

  op_decided : (c : HcrCommand) (f : Option Op) → Decided w mail (op_asked w.hca.logs c f) (decide_op w mail c f)
  unfolding decide_op
  op_decided c None = plain cause.NotServed refl
  op_decided c (Some o) =
      let f : Option CommandAsked = read_command w.hca.logs o c.op_modifier c.in_modifier in
      by_pick (Decided w mail (found_asked f)) (bad_system w.hca.«open» o) _ _ (λ _. plain cause.BadSystemState refl)
      (λ s. by_pick (Decided w mail (found_asked f)) (busy w.row o) _ _ (λ _. plain cause.Busy refl)
      (λ b. found_decided o s b f (command_reads w.hca.logs o c.op_modifier c.in_modifier)))

  register_decided : (r : Result HcrCommand ReadError) → Decided w mail (register_asked w.hca.logs r) (decide_register w mail r)
  unfolding decide_register
  register_decided (Err readError.Short) = plain cause.BadLength refl
  register_decided (Err readError.Malformed) = plain cause.Malformed refl
  register_decided (Ok c) =
      by_pick (Decided w mail (op_asked w.hca.logs c (read_op c.op))) c.event _ _ (λ _. plain cause.Malformed refl)
      (λ _. op_decided c (read_op c.op))

pub command_decided : (w : World) (bytes mail : List ℕ) → Decided w mail (command_asked w.hca.logs bytes) (decide_command w bytes mail)
unfolding decide_command
command_decided w bytes mail =
    let a : Asked = command_asked w.hca.logs bytes in
    by_pick (Decided w mail a) (either (bad_lent w) (ltb (length bytes) 28)) _ _ (λ _. plain cause.BadLength refl)
    (λ l. by_pick (Decided w mail a) (bad_state w) _ _ (λ _. plain cause.Impossible refl)
    (λ s. register_decided w mail (record { lent = neither_left (bad_lent w) (ltb (length bytes) 28) l; possible = s }) (read_of bytes)))

-- ---- a joined read

module _ (w : World) (p : Passing w) (o : w.hca.«open» ≡ true) (n : QpNumber) (v : is_record w.hca.logs (rec.Qp n) ≡ true)
    (h : read_held w.row (rec.Qp n) ≡ false) where
  abbrev Joined : Result Decision Refusal → Type 0
  Joined d = Decided w [] (asks_request (read_joined n)) d

  abbrev bytes : Record → List ℕ
  bytes = record_in w.hca.logs w.memory

  -- the name in a record, of so many
  same : (name count : ℕ) → ltb name count ≡ true → both (ltb name count) (eqb name name) ≡ true
  same name count l = both_yes _ _ l (eq-eqb name name refl)

  module _ (c : CqNumber) (in_cqs : ltb c.0 (cqs_of w) ≡ true) (named : cq_named (bytes (rec.Qp n)) ≡ c.0)
      (hc : read_held w.row (rec.Cq c) ≡ false) where
    cq_valid : is_record w.hca.logs (rec.Cq c) ≡ true
    unfolding is_record
    cq_valid = in_cqs

    cq_named_lem : both (ltb (cq_named (bytes (rec.Qp n))) (cqs_of w)) (eqb (cq_named (bytes (rec.Qp n))) c.0) ≡ true
    cq_named_lem = rw named (same c.0 (cqs_of w) in_cqs)

    eq_found : (e : EqNumber) → ltb e.0 (eqs_of w) ≡ true → eq_named (bytes (rec.Cq c)) ≡ e.0
        → read_held w.row (rec.Eq e) ≡ false → Judging w (joins n c e) []
    unfolding is_record
    eq_found e l i he = record {
      asking = record {
        passing = p;
        opened = o;
        valid = v;
        all = both_yes _ _ v (both_yes _ _ cq_valid (both_yes _ _ l refl));
        named = both_yes _ _ v (both_yes _ _ cq_named_lem (rw i (same e.0 (eqs_of w) l)));
      };
      enough = omega arith;
      content = refl;
      free = held_joined w.row n c e h hc he;
    }

    eq_missing : ltb (eq_named (bytes (rec.Cq c))) (eqs_of w) ≡ false → Missing w n (no_eq c)
    eq_missing l = record {
      passing = p;
      opened = o;
      all = both_yes _ _ v (both_yes _ _ cq_valid refl);
      free = free;
      missed = both_yes _ _ cq_named_lem (ap not l);
    }
      where
        free : (X : Record) → In X (trail_of n (no_eq c)) → read_held w.row X ≡ false
        free X (inr (inr x'')) = elim x'' [ ]
        free X (inl e) = rw (← e) h
        free X (inr (inl e)) = rw (← e) hc

    eq_decided : Joined (decide_eq w n c (eq_of w.hca.logs (eq_named (bytes (rec.Cq c)))))
    unfolding decide_eq permission_in
    eq_decided =
        by_pick (λ (x : Option EqNumber). Joined (decide_eq w n c x)) (ltb (eq_named (bytes (rec.Cq c))) (eqs_of w)) _ _
        (λ l. let e : EqNumber = record { 0 = eq_named (bytes (rec.Cq c)) } in
        by_pick Joined (read_held w.row (rec.Eq e)) _ _ (λ _. plain cause.Held refl)
        (λ he. let j : Judging w (joins n c e) [] = eq_found e l refl he in
        placed w [] (joins n c e) j.asking j refl (lowest_free 0 w.row) refl))
        (λ l. misnamed (eq_missing l))

  cq_missing : ltb (cq_named (bytes (rec.Qp n))) (cqs_of w) ≡ false → Missing w n no_cq
  cq_missing l = record { passing = p; opened = o; all = both_yes _ _ v refl; free = free; missed = ap not l }
    where
      free : (X : Record) → In X (trail_of n no_cq) → read_held w.row X ≡ false
      free X (inr x') = elim x' [ ]
      free X (inl e) = rw (← e) h

  cq_decided : Joined (decide_cq w n (cq_of w.hca.logs (cq_named (bytes (rec.Qp n)))))
  unfolding decide_cq
  cq_decided =
      by_pick (λ (x : Option CqNumber). Joined (decide_cq w n x)) (ltb (cq_named (bytes (rec.Qp n))) (cqs_of w)) _ _
      (λ l. let c : CqNumber = record { 0 = cq_named (bytes (rec.Qp n)) } in
      by_pick Joined (read_held w.row (rec.Cq c)) _ _ (λ _. plain cause.Held refl) (λ hc. eq_decided c l refl hc))
      (λ l. misnamed (cq_missing l))

-- ---- an engine request

module _ (w : World) (p : Passing w) where
  joined_decided : w.hca.«open» ≡ true → (n : QpNumber) → is_record w.hca.logs (rec.Qp n) ≡ true
      → Decided w [] (asks_request (read_joined n)) (decide_joined w n)
  unfolding decide_joined
  joined_decided o n v =
      by_pick (Decided w [] (asks_request (read_joined n))) (read_held w.row (rec.Qp n)) _ _ (λ _. plain cause.Held refl)
      (λ h. cq_decided w p o n v h)

  alone_all : (e : EngineRequest) → Alone e → is_record w.hca.logs (engine_record e) ≡ true
      → all_records w.hca.logs (records_of (request.Engine e)) ≡ true
  alone_all (requested.ReadState n) a v = both_yes _ _ v refl
  alone_all (requested.ReadNext n) a v = both_yes _ _ v refl
  alone_all (requested.ReadAll n) a v = both_yes _ _ v refl
  alone_all (requested.Write f s n psn) a v = both_yes _ _ v refl
  alone_all (requested.ReadJoined n c e) a v = absurd a

  asked_decided : w.hca.«open» ≡ true → (f : Option EngineAsked) → Valid w.hca.logs f → Decided w [] (engine_found_asked f) (decide_asked w f)
  unfolding decide_asked
  asked_decided o (Some (asked.OnRecord e)) v =
      request_decided w [] (request.Engine e) (record {
        passing = p;
        opened = o;
        valid = v.0;
        all = alone_all e v.1 v.0;
        named = alone_fits (qps_of w) (cqs_of w) (eqs_of w) e (record_in w.hca.logs w.memory) v.1;
      })
  asked_decided o (Some (asked.Joined n)) v = joined_decided o n v
  asked_decided o None v = plain cause.BadParameter refl

  number_decided : (index psn code : ℕ) (f : Option EngineNumber)
      → Decided w [] (number_asked w.hca.logs index psn code f) (decide_number w index psn code f)
  unfolding decide_number
  number_decided index psn code None = plain cause.NotServed refl
  number_decided index psn code (Some k) =
      let f : Option EngineAsked = read_engine w.hca.logs k index psn code in
      by_pick (Decided w [] (engine_found_asked f)) (not w.hca.«open») _ _ (λ _. plain cause.BadSystemState refl)
      (λ o. asked_decided (is_open w.hca.«open» o) f (engine_valid w.hca.logs k index psn code))

pub engine_decided : (w : World) (n index psn code : ℕ)
    → Decided w [] (engine_asked w.hca.logs n index psn code) (decide_engine w n index psn code)
unfolding decide_engine
engine_decided w n index psn code =
    let a : Asked = engine_asked w.hca.logs n index psn code in
    by_pick (Decided w [] a) (bad_lent w) _ _ (λ _. plain cause.BadLength refl)
    (λ l. by_pick (Decided w [] a) (bad_state w) _ _ (λ _. plain cause.Impossible refl)
    (λ s. number_decided w (record { lent = l; possible = s }) index psn code (read_number n)))
