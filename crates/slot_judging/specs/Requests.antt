-- What the code finds from a slot's numbers is what the request says that they are.
use Rattle.std.specs.Prelude.{◌≡◌, refl, true, false, not, List, ℕ, ◌+◌, ◌*◌, ◌≤◌, ◌<◌, ◌^◌, eqb, ltb, leb, get_or, Option, Some, None}
use Rattle.std.proofs.Math.Path.{sym, ap, ap₂}
use Rattle.std.proofs.Common.{◌∙◌}
use Rattle.std.proofs.Math.Bool.{Bool}
use borrow.Author.Tests.{lt-ltb, ne_eqb, le-leb, lt-leb, not-true, not-false}
use Rattle.words.specs.Choice.{pick, both}
use Rattle.words.specs.Words.{le32}
use Rattle.context.specs.Layout.{is_record}
use Rattle.context.specs.declared.Logs.{Logs}
use Rattle.requests.specs.Psns.{psn_fits}
use Rattle.requests.specs.declared.Command.{Command}
use Rattle.requests.specs.declared.Command.TheVariants as command
use Rattle.requests.specs.declared.Request.TheVariants as request
use Rattle.commands.specs.Commands.{read_op, op_modifier_of, read_command, command_right, in_modifier_right, command_on, owned_at}
use Rattle.commands.proofs.Reading.{command_read}
use Rattle.commands.specs.declared.Table.TheVariants as table
use Rattle.commands.specs.declared.Op.{Op}
use Rattle.commands.specs.declared.Op.TheVariants as op
use Rattle.commands.specs.declared.CommandAsked.{CommandAsked}
use Rattle.commands.specs.declared.CommandAsked.TheVariants as asked'
use Rattle.engines.specs.Engines.{read_number, read_engine, engine_right, fields_right, request_on}
use Rattle.engines.proofs.Reading.{engine_read}
use Rattle.engines.specs.declared.EngineNumber.{EngineNumber}
use Rattle.engines.specs.declared.EngineNumber.TheVariants as number
use Rattle.engines.specs.declared.EngineAsked.{EngineAsked}
use Rattle.request_table.specs.Records.{command_record, command_writes, numbers_hold}
use Rattle.burst_table.specs.Bursts.{total_of}
use Rattle.slot_requests.specs.Requests.{any_index, on_record, with_op}
use Rattle.device_bytes.specs.Decoding.{engine_held, op_field, request_in}
use Rattle.hold_codes.specs.Codes.{record_code, one_hold, three_hold}
use Rattle.hold_codes.specs.declared.Hold.{Hold}
use Rattle.slot_judging.specs.Judging.{bad, judged_by, judged_request, judged_of, record_judged, op_judged, joined_judged, write_judged}
use Rattle.slot_judging.specs.Judging.{queue_pair_judged, engine_in}
use Rattle.slot_judging.specs.declared.Judged.{Judged}

-- every index of 32 bits is below the counts with which a slot's request is read
any_below : (n : ℕ) → n < 2 ^ 32 → ltb n (2 ^ 32) ≡ true
any_below n h = lt-ltb n (2 ^ 32) h

one_test : (t : Bool) (x y : Option Judged) → pick (both (both t true) true) x y ≡ pick t x y
one_test true x y = refl
one_test false x y = refl

-- ---- commands

-- a command has one record, and no PSN
command_judged : (g : Logs) (code m : ℕ) (c : Command) → judged_request g code m (Some (request.Command c))
    ≡ pick (is_record g (command_record c))
    (judged_by code m (total_of (request.Command c)) true (one_hold (record_code (command_record c)) (command_writes c))) bad
unfolding numbers_hold
command_judged g code m c = one_test (is_record g (command_record c)) _ bad

module _ (g : Logs) (o : Op) (modifier n code m : ℕ) (h : n < 2 ^ 32) where
  -- a served op on a record: its op_modifier is judged
  served : (c : Command) → command_on o n ≡ Some (asked'.OnRecord c) → in_modifier_right any_index o n ≡ ltb n (2 ^ 32)
      → pick (eqb modifier (op_modifier_of o)) (judged_request g code m (Some (request.Command c))) bad
      ≡ judged_request g code m (on_record (read_command any_index o modifier n))
  unfolding command_right
  served c e i =
      sym (ap judge (command_read any_index o modifier n)
      ∙ ap₂ (λ (b : Bool) (f : Option CommandAsked). judge (pick (both (eqb modifier (op_modifier_of o)) b) f None)) (i ∙ any_below n h) e
      ∙ go (eqb modifier (op_modifier_of o)))
    where
      judge : Option CommandAsked → Option Judged
      judge f = judged_request g code m (on_record f)

      go : (b : Bool) → judge (pick (both b true) (Some (asked'.OnRecord c)) None)
          ≡ pick b (judged_request g code m (Some (request.Command c))) bad
      go true = refl
      go false = refl

  -- an op on one record of a kind
  on_one_lem : (c : Command) → command_on o n ≡ Some (asked'.OnRecord c) → in_modifier_right any_index o n ≡ ltb n (2 ^ 32)
      → pick (eqb modifier (op_modifier_of o)) (pick (is_record g (command_record c))
      (judged_by code m (total_of (request.Command c)) true (one_hold (record_code (command_record c)) (command_writes c))) bad) bad
      ≡ judged_request g code m (on_record (read_command any_index o modifier n))
  on_one_lem c e i =
      ap (λ (j : Option Judged). pick (eqb modifier (op_modifier_of o)) j bad) (sym (command_judged g code m c)) ∙ served c e i

-- an op without a record takes no slot
none_judged : (g : Logs) (code m : ℕ) (a b : Bool) (f : Option CommandAsked) → on_record f ≡ None
    → bad ≡ judged_request g code m (on_record (pick a (pick b f None) None))
none_judged g code m true true f e = sym (ap (judged_request g code m) e)
none_judged g code m true false f e = refl
none_judged g code m false b f e = refl

pub op_judged_lem : (g : Logs) (o : Op) (modifier n code m : ℕ) → n < 2 ^ 32
    → op_judged g o modifier n code m ≡ judged_request g code m (on_record (read_command any_index o modifier n))
unfolding read_command is_record record_judged
op_judged_lem g op.InitHca modifier n code m h = none_judged g code m (eqb modifier 0) (eqb n 0) (Some asked'.InitHca) refl
op_judged_lem g op.CloseHca modifier n code m h = none_judged g code m (eqb modifier 0) (eqb n 0) (Some asked'.CloseHca) refl
op_judged_lem g op.Nop modifier n code m h = none_judged g code m (eqb modifier 0) (eqb n 0) (Some asked'.Nop) refl
op_judged_lem g (op.Sw2Hw table.Mpt) modifier n code m h =
    on_one_lem g (op.Sw2Hw table.Mpt) modifier n code m h (command.Sw2Hw (owned_at table.Mpt n)) refl refl
op_judged_lem g (op.Sw2Hw table.Eq) modifier n code m h =
    on_one_lem g (op.Sw2Hw table.Eq) modifier n code m h (command.Sw2Hw (owned_at table.Eq n)) refl refl
op_judged_lem g (op.Sw2Hw table.Cq) modifier n code m h =
    on_one_lem g (op.Sw2Hw table.Cq) modifier n code m h (command.Sw2Hw (owned_at table.Cq n)) refl refl
op_judged_lem g (op.Hw2Sw table.Mpt) modifier n code m h =
    on_one_lem g (op.Hw2Sw table.Mpt) modifier n code m h (command.Hw2Sw (owned_at table.Mpt n)) refl refl
op_judged_lem g (op.Hw2Sw table.Eq) modifier n code m h =
    on_one_lem g (op.Hw2Sw table.Eq) modifier n code m h (command.Hw2Sw (owned_at table.Eq n)) refl refl
op_judged_lem g (op.Hw2Sw table.Cq) modifier n code m h =
    on_one_lem g (op.Hw2Sw table.Cq) modifier n code m h (command.Hw2Sw (owned_at table.Cq n)) refl refl
op_judged_lem g op.ResizeCq modifier n code m h = on_one_lem g op.ResizeCq modifier n code m h (command.ResizeCq (record { 0 = n })) refl refl
op_judged_lem g op.QueryQp modifier n code m h = on_one_lem g op.QueryQp modifier n code m h (command.QueryQp (record { 0 = n })) refl refl
op_judged_lem g (op.ModifyQp e) modifier n code m h =
    on_one_lem g (op.ModifyQp e) modifier n code m h
    (command.ModifyQp e (record { 0 = n })) refl refl

-- ---- engine requests

write_test : (p a s : Bool) (x : Option Judged) → pick a (pick p (pick s x bad) bad) bad ≡ pick (both p s) (pick (both (both a true) p) x bad) bad
write_test true true true x = refl
write_test true true false x = refl
write_test true false true x = refl
write_test true false false x = refl
write_test false true s x = refl
write_test false false s x = refl

joined_test : (a b c : Bool) (x : Option Judged) → pick a (pick b (pick c x bad) bad) bad ≡ pick (both (both a (both b (both c true))) true) x bad
joined_test true true true x = refl
joined_test true true false x = refl
joined_test true false c x = refl
joined_test false b c x = refl

module _ (g : Logs) (n code m : ℕ) (b : List ℕ) where
  judge_held : Option EngineAsked → Option Judged
  judge_held f = judged_request g code m (engine_held (le32 12 b) (le32 16 b) f)

  number_is : (k : EngineNumber) → queue_pair_judged g k n b code m
      ≡ pick (fields_right k (le32 20 b) (get_or b 24 0)) (judge_held (request_on k n (le32 20 b) (get_or b 24 0))) bad
  unfolding judge_held numbers_hold is_record joined_judged write_judged
  number_is number.ReadState = sym (one_test (ltb n (2 ^ g.qps)) _ bad)
  number_is number.ReadNext = sym (one_test (ltb n (2 ^ g.qps)) _ bad)
  number_is number.ReadAll = sym (one_test (ltb n (2 ^ g.qps)) _ bad)
  number_is (number.Write p) = write_test (psn_fits (le32 20 b)) (ltb n (2 ^ g.qps)) (leb (get_or b 24 0) 6) _
  number_is number.ReadJoined = joined_test (ltb n (2 ^ g.qps)) (ltb (le32 12 b) (2 ^ g.cqs)) (ltb (le32 16 b) (2 ^ g.eqs)) _

  pub number_judged_lem : (k : EngineNumber) → n < 2 ^ 32
      → queue_pair_judged g k n b code m
      ≡ judged_request g code m (engine_held (le32 12 b) (le32 16 b) (read_engine any_index k n (le32 20 b) (get_or b 24 0)))
  unfolding judge_held engine_right
  number_judged_lem k h =
      number_is k
      ∙ sym (ap judge_held (engine_read any_index k n (le32 20 b) (get_or b 24 0))
      ∙ ap (λ (t : Bool). judge_held (pick (both t right) asked None)) (any_below n h)
      ∙ go right)
    where
      right : Bool
      right = fields_right k (le32 20 b) (get_or b 24 0)

      asked : Option EngineAsked
      asked = request_on k n (le32 20 b) (get_or b 24 0)

      go : (t : Bool) → judge_held (pick t asked None) ≡ pick t (judge_held asked) bad
      go true = refl
      go false = refl

-- ---- as the code has them: r is what is answered, each other letter what a call found

pub one_told : (code m total : ℕ) (command : Bool) (n kind k : ℕ) (writes : Bool) (h : Hold) (r : Option Judged) → k ≡ n * 4 + kind
    → h ≡ one_hold k writes → r ≡ judged_by code m total command h → r ≡ judged_by code m total command (one_hold (n * 4 + kind) writes)
one_told code m total command n kind k writes h r e f i =
    i ∙ ap (judged_by code m total command) (f ∙ ap (λ (x : ℕ). one_hold x writes) e)

-- the tests of a joined read's names
module _ (g : Logs) (n c e cq eq code m : ℕ) (t : Bool) (r : Option Judged) (p : c ≡ cq) (q : e ≡ eq) (k : t ≡ ltb c (2 ^ g.cqs)) where
  pub cq_told : not t ≡ true → r ≡ bad → r ≡ joined_judged g n cq eq code m
  unfolding joined_judged
  cq_told f h = rw (← p, ← k, not-true t f) h

  pub eq_told : (u : Bool) → u ≡ ltb e (2 ^ g.eqs) → not t ≡ false → not u ≡ true → r ≡ bad → r ≡ joined_judged g n cq eq code m
  unfolding joined_judged
  eq_told u l f i h = rw (← p, ← q, ← k, ← l, not-false t f, not-true u i) h

  pub names_told : (u : Bool) (x : Hold) → u ≡ ltb e (2 ^ g.eqs) → not t ≡ false → not u ≡ false
      → x ≡ three_hold (n * 4 + 1) (c * 4 + 2) (e * 4 + 3) → r ≡ judged_by code m 24 false x → r ≡ joined_judged g n cq eq code m
  unfolding joined_judged
  names_told u x l f i y h = rw (← p, ← q, ← k, ← l, not-false t f, not-false u i) (h ∙ ap (judged_by code m 24 false) y)

-- the tests of a write's PSN and state
module _ (n x psn state code m : ℕ) (t : Bool) (r : Option Judged) (p : x ≡ psn) (k : t ≡ psn_fits x) where
  pub psn_told : not t ≡ true → r ≡ bad → r ≡ write_judged n psn state code m
  unfolding write_judged
  psn_told f h = rw (← p, ← k, not-true t f) h

  pub state_told : not t ≡ false → 6 < state → r ≡ bad → r ≡ write_judged n psn state code m
  unfolding write_judged
  state_told f i h = rw (← p, ← k, not-false t f, lt-leb state 6 i) h

  pub write_told : not t ≡ false → state ≤ 6 → r ≡ judged_by code m 2 false (one_hold (n * 4 + 1) true) → r ≡ write_judged n psn state code m
  unfolding write_judged
  write_told f i h = rw (← p, ← k, not-false t f, le-leb state 6 i) h

pub edge_told : (log index code m modifier k wanted : ℕ) (r : Option Judged) → k ≡ wanted
    → r ≡ record_judged log 1 16 modifier k index code m true → r ≡ record_judged log 1 16 modifier wanted index code m true
edge_told log index code m modifier k wanted r p i = i ∙ ap (λ (x : ℕ). record_judged log 1 16 modifier x index code m true) p

module _ (g : Logs) (b : List ℕ) (op index : ℕ) (r : Option Judged) (o : op ≡ op_field b) (i : index ≡ le32 8 b) where
  pub command_told : (f : Option Op) → get_or b 1 0 ≡ 0 → f ≡ read_op op
      → r ≡ judged_request g (get_or b 0 0) (get_or b 2 0) (with_op f (get_or b 3 0) index) → r ≡ judged_of g b
  unfolding judged_of request_in
  command_told f k e h =
      rw (k)
      (h ∙ ap₂ (λ (x : Option Op) (y : ℕ). judged_request g (get_or b 0 0) (get_or b 2 0) (with_op x (get_or b 3 0) y)) (e ∙ ap read_op o) i)

  pub engine_told : (w : ℕ) (f : Option EngineNumber) → get_or b 1 0 ≡ 1 → w ≡ op → f ≡ read_number w
      → r ≡ judged_request g (get_or b 0 0) (get_or b 2 0) (engine_in index b f) → r ≡ judged_of g b
  unfolding judged_of request_in
  engine_told w f k v e h =
      rw (k)
      (h ∙ ap₂ (λ (x : Option EngineNumber) (y : ℕ). judged_request g (get_or b 0 0) (get_or b 2 0) (engine_in y b x)) (e ∙ ap read_number (v ∙ o)) i)

pub neither_told : (g : Logs) (b : List ℕ) (r : Option Judged) → ¬ (get_or b 1 0 ≡ 0) → ¬ (get_or b 1 0 ≡ 1) → r ≡ bad → r ≡ judged_of g b
unfolding judged_of request_in
neither_told g b r p q e = rw (ne_eqb (get_or b 1 0) 0 p, ne_eqb (get_or b 1 0) 1 q) e
