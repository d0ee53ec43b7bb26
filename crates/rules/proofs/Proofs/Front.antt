-- Only the needed front is read: no answer and nothing left depends on the mailbox behind the needed bytes, on the HCR behind its 28, or
-- on the room behind its eight parts.
use Rattle.std.proofs.Math.Path.{◌≡◌, refl, sym, ap, ap₂}
use Rattle.std.proofs.Common.{◌∙◌, le-ltb, length-append}
use Rattle.std.specs.Prelude.{Bool, true, false, not, ℕ, ◌+◌, ◌≤◌, ◌<◌, ltb, length, get_or, set, Option, Some, None, Result, Ok, Err}
use mathlib.Core.List.{List, [], ◌++◌}
use native.Mathlib.Omega.{arith}
use Rattle.words.specs.Choice.{pick, both, either}
use Rattle.words.specs.Parts.{part, splice}
use Rattle.words.proofs.Parts.{length_part}
use Rattle.words.proofs.Tails.{part_left}
use Rattle.hcr.specs.Register.{read_of}
use Rattle.hcr.proofs.Within.{read_left}
use Rattle.hcr.specs.declared.HcrCommand.{HcrCommand}
use Rattle.hcr.specs.declared.ReadError.{ReadError}
use Rattle.hcr.specs.declared.ReadError.TheVariants as readError
use Rattle.context.proofs.Counts.{init_left}
use Rattle.context.specs.declared.CqNumber.{CqNumber}
use Rattle.context.specs.declared.QpNumber.{QpNumber}
use Rattle.context.specs.declared.Record.TheVariants as rec
use Rattle.context.specs.declared.EqNumber.{EqNumber}
use Rattle.requests.specs.declared.Request.{Request}
use Rattle.requests.specs.declared.Request.TheVariants as request
use Rattle.commands.specs.Commands.{read_op, read_command}
use Rattle.commands.specs.declared.CommandAsked.{CommandAsked}
use Rattle.commands.specs.declared.Op.{Op}
use Rattle.commands.specs.declared.CommandAsked.TheVariants as asked
use Rattle.engines.specs.Engines.{read_number, read_engine}
use Rattle.engines.specs.declared.EngineAsked.{EngineAsked}
use Rattle.engines.specs.declared.EngineNumber.{EngineNumber}
use Rattle.engines.specs.declared.EngineAsked.TheVariants as engineAsked
use Rattle.request_table.specs.Records.{writes_of}
use Rattle.mailboxes.specs.Mailboxes.{need_of}
use Rattle.burst_table.specs.Bursts.{offset_of}
use Rattle.burst_table.specs.Sizes.{slot_count, slot_room, room_size}
use Rattle.burst_table.proofs.Laws.{need_small}
use Rattle.contents.specs.Content.{content_holds}
use Rattle.contents.proofs.Front.{content_front}
use Rattle.answers.specs.Answers.{answer_of, answer_size}
use Rattle.bursts.specs.Room.{room_of, front_of, room_filled, room_copied}
use Rattle.bursts.proofs.Room.{room_tail, front_tail, copied_tail, filled_tail}
use Rattle.records.specs.Memory.{Memory, written, read_out, permission_in}
use Rattle.slots.specs.Slots.{slot, accepted, left_of}
use Rattle.slots.specs.declared.Status.{Status}
use Rattle.slots.specs.declared.Status.TheVariants.{Free, Running, Finished}
use Rattle.holds.specs.Holds.{held_against, read_held}
use Rattle.rows.proofs.Laws.{Lowest, lowest_free_is}
use Rattle.rules.specs.declared.Refusal.TheVariants as cause
use Rattle.rules.specs.World.{World, with_room, store_length, status_at, bad_row, bad_store, bad_lent, bad_state}
use Rattle.rules.specs.Admission.{Submitted, submitted, world_opened, world_closed, world_taken}
use Rattle.rules.specs.Admission.{applied, decide_place, decide_verdict, decide_request}
use Rattle.rules.specs.Commands.{decide_init, decide_found, bad_system, busy, decide_op, decide_register, decide_command, submit_command}
use Rattle.rules.specs.Engines.{decide_asked, decide_number, decide_engine, submit_engine, decide_eq, decide_cq, decide_joined}
use Rattle.rules.specs.Steps.{Stepped, stepped, step_refused, memory_moved, room_moved, slot_moved, world_moved, step_on, step_of}
use Rattle.rules.specs.Collections.{Collected, collected, collect_refused, answer_at, world_freed, collect_finished, collect_on, collect_of}
use Rattle.rules.specs.Resets.{Reset, resetted, world_reset, reset_of}
use Rattle.rules.specs.Calls.{command, engine_request, step, collection, resetting, Asked}
use Rattle.rules.specs.Calls.{found_asked, op_asked, register_asked, command_asked, engine_asked}
use Rattle.rules.specs.Calls as calls
use Rattle.rules.specs.Frames.{needed_by, MailboxFront, RegisterFront, RoomFront}
use Rattle.rules.proofs.Laws.Lent.{Sized, lent_sized, in_row}
use Rattle.rules.specs.Laws.Decided.{Decided, plain, denied, takes, closes, rests, opens, misnamed}
use Rattle.rules.proofs.Laws.Decided.{command_decided, engine_decided}
use Rattle.rules.specs.Laws.Outcomes.{Stepping}
use Rattle.rules.proofs.Laws.Outcomes.{running_open}
use Rattle.rules.proofs.Proofs.Moved.{step_sized, step_slot, in_part}
use Rattle.rules.specs.declared.Decision.{Decision}
use Rattle.rules.specs.declared.Refusal.{Refusal}
use Rattle.rules.specs.declared.Decision.TheVariants as decide
use Rattle.checks.specs.declared.Denial.{Denial}

-- a choice that a function goes through
pick_through : {A B : Type 0} (f : A → B) (b : Bool) (x y : A) (x' y' : B) → (b ≡ true → x' ≡ f x) → (b ≡ false → y' ≡ f y)
    → pick b x' y' ≡ f (pick b x y)
pick_through f true x y x' y' p q = p refl
pick_through f false x y x' y' p q = q refl

-- the test for a list that is too short, of a list with a tail
short_same : (n : ℕ) (l t : List ℕ) → n ≤ length l → ltb (length (l ++ t)) n ≡ ltb (length l) n
short_same n l t h = le-ltb (length (l ++ t)) n (omega (arith, length-append l t)) ∙ sym (le-ltb (length l) n h)

-- ---- the mailbox

module _ (w : World) (mail t : List ℕ) where
  request_front : (q : Request) → need_of q ≤ length mail → decide_request w q (mail ++ t) ≡ decide_request w q mail
  unfolding decide_request
  request_front q h = rw (short_same (need_of q) mail t h, content_front q mail t h)

  found_front : (f : Option CommandAsked) → needed_by (found_asked f) ≤ length mail → decide_found w (mail ++ t) f ≡ decide_found w mail f
  unfolding decide_found
  found_front (Some asked.InitHca) h = ap decide_init (init_left mail t (store_length w) h)
  found_front (Some asked.CloseHca) h = refl
  found_front (Some asked.Nop) h = refl
  found_front (Some (asked.OnRecord c)) h = request_front (request.Command c) h
  found_front None h = refl

  op_front : (c : HcrCommand) (f : Option Op) → needed_by (op_asked w.hca.logs c f) ≤ length mail
      → decide_op w (mail ++ t) c f ≡ decide_op w mail c f
  unfolding decide_op
  op_front c None h = refl
  op_front c (Some o) h =
      ap (λ (d : Result Decision Refusal). pick (bad_system w.hca.«open» o) (Err cause.BadSystemState)
      (pick (busy w.row o) (Err cause.Busy) d))
      (found_front (read_command w.hca.logs o c.op_modifier c.in_modifier) h)

  register_mail : (r : Result HcrCommand ReadError) → needed_by (register_asked w.hca.logs r) ≤ length mail
      → decide_register w (mail ++ t) r ≡ decide_register w mail r
  unfolding decide_register
  register_mail (Err readError.Short) h = refl
  register_mail (Err readError.Malformed) h = refl
  register_mail (Ok c) h = ap (pick c.event (Err cause.Malformed)) (op_front c (read_op c.op) h)

  -- what is taken from the mailbox
  applied_front : (a : Asked) (d : Result Decision Refusal) → Decided w mail a d → applied w (mail ++ t) d ≡ applied w mail d
  unfolding world_taken
  applied_front a d (plain c e) = refl
  applied_front a d (denied g e) = refl
  applied_front a d (misnamed g) = refl
  applied_front a d (takes {q = q} {k = k} g e f) =
      ap (λ (ys : List ℕ). submitted (applied w mail (Ok (decide.Take q k))).answer
      (with_room (world_taken w q mail k) (room_filled k ys w.room)))
      (part_left 0 (need_of q) mail t (omega (arith, g.enough)))
  applied_front a d (closes o n) = refl
  applied_front a d rests = refl
  applied_front a d (opens p o e) = refl

pub mailbox_front : MailboxFront
unfolding submit_command decide_command
mailbox_front w bytes mail t h =
    ap (applied w (mail ++ t))
    (ap (λ (d : Result Decision Refusal). pick (either (bad_lent w) (ltb (length bytes) 28)) (Err cause.BadLength)
    (pick (bad_state w) (Err cause.Impossible) d)) (register_mail w mail t (read_of bytes) h))
    ∙ applied_front w mail t (command_asked w.hca.logs bytes) (decide_command w bytes mail) (command_decided w bytes mail)

-- ---- the register

pub register_front : RegisterFront
unfolding submit_command decide_command
register_front w bytes t mail h = rw (short_same 28 bytes t h, read_left bytes t h)

-- ---- the room

module _ (w : World) (t : List ℕ) (roomed : room_size ≤ length w.room) where
  abbrev v : World
  v = with_room w (w.room ++ t)

  -- a world with the tail behind its room
  abbrev tailed : World → World
  tailed u = with_room u (u.room ++ t)

  lent_same : bad_lent v ≡ bad_lent w
  unfolding bad_lent bad_row bad_store
  lent_same = rw (short_same room_size w.room t roomed)

  -- what decides does not look at the room
  verdict_same : (q : Request) (x : Result (Unit {0}) Denial) → decide_verdict v q x ≡ decide_verdict w q x
  unfolding decide_verdict
  verdict_same q (Ok tt) = refl
  verdict_same q (Err d) = refl

  request_same : (q : Request) (mail : List ℕ) → decide_request v q mail ≡ decide_request w q mail
  unfolding decide_request
  request_same q mail =
      ap (λ (d : Result Decision Refusal). pick (ltb (length mail) (need_of q)) (Err cause.ShortMailbox)
      (pick (not (content_holds q mail)) (Err cause.BadContent)
      (pick (held_against w.row q) (Err cause.Held) d)))
      (verdict_same q (permission_in w.hca.logs w.memory q))

  found_same : (mail : List ℕ) (f : Option CommandAsked) → decide_found v mail f ≡ decide_found w mail f
  unfolding decide_found
  found_same mail (Some asked.InitHca) = refl
  found_same mail (Some asked.CloseHca) = refl
  found_same mail (Some asked.Nop) = refl
  found_same mail (Some (asked.OnRecord c)) = request_same (request.Command c) mail
  found_same mail None = refl

  op_same : (mail : List ℕ) (c : HcrCommand) (f : Option Op) → decide_op v mail c f ≡ decide_op w mail c f
  unfolding decide_op
  op_same mail c None = refl
  op_same mail c (Some o) =
      ap (λ (d : Result Decision Refusal). pick (bad_system w.hca.«open» o) (Err cause.BadSystemState)
      (pick (busy w.row o) (Err cause.Busy) d))
      (found_same mail (read_command w.hca.logs o c.op_modifier c.in_modifier))

  register_same : (mail : List ℕ) (r : Result HcrCommand ReadError) → decide_register v mail r ≡ decide_register w mail r
  unfolding decide_register
  register_same mail (Err readError.Short) = refl
  register_same mail (Err readError.Malformed) = refl
  register_same mail (Ok c) = ap (pick c.event (Err cause.Malformed)) (op_same mail c (read_op c.op))

  command_same : (bytes mail : List ℕ) → decide_command v bytes mail ≡ decide_command w bytes mail
  unfolding decide_command bad_state
  command_same bytes mail =
      ap₂ (λ (b : Bool) (d : Result Decision Refusal). pick (either b (ltb (length bytes) 28)) (Err cause.BadLength)
      (pick (bad_state w) (Err cause.Impossible) d)) lent_same (register_same mail (read_of bytes))

  eq_same : (n : QpNumber) (c : CqNumber) (x : Option EqNumber) → decide_eq v n c x ≡ decide_eq w n c x
  unfolding decide_eq
  eq_same n c (Some e) = refl
  eq_same n c None = refl

  cq_same : (n : QpNumber) (x : Option CqNumber) → decide_cq v n x ≡ decide_cq w n x
  unfolding decide_cq
  cq_same n (Some c) = ap (pick (read_held w.row (rec.Cq c)) (Err cause.Held)) (eq_same n c _)
  cq_same n None = refl

  joined_same : (n : QpNumber) → decide_joined v n ≡ decide_joined w n
  unfolding decide_joined
  joined_same n = ap (pick (read_held w.row (rec.Qp n)) (Err cause.Held)) (cq_same n _)

  asked_same : (f : Option EngineAsked) → decide_asked v f ≡ decide_asked w f
  unfolding decide_asked
  asked_same (Some (engineAsked.OnRecord e)) = request_same (request.Engine e) []
  asked_same (Some (engineAsked.Joined n)) = joined_same n
  asked_same None = refl

  number_same : (index psn code : ℕ) (f : Option EngineNumber) → decide_number v index psn code f ≡ decide_number w index psn code f
  unfolding decide_number
  number_same index psn code None = refl
  number_same index psn code (Some k) =
      ap (pick (not w.hca.«open») (Err cause.BadSystemState)) (asked_same (read_engine w.hca.logs k index psn code))

  engine_same : (n index psn code : ℕ) → decide_engine v n index psn code ≡ decide_engine w n index psn code
  unfolding decide_engine bad_state
  engine_same n index psn code =
      ap₂ (λ (b : Bool) (d : Result Decision Refusal). pick b (Err cause.BadLength) (pick (bad_state w) (Err cause.Impossible) d))
      lent_same (number_same index psn code (read_number n))

  -- what is applied leaves the tail
  applied_tail : (mail : List ℕ) (a : Asked) (d : Result Decision Refusal) → Decided w mail a d
      → applied v mail d ≡ submitted (applied w mail d).answer (tailed (applied w mail d).world)
  unfolding world_taken world_closed world_opened
  applied_tail mail a d (plain c e) = refl
  applied_tail mail a d (denied g e) = refl
  applied_tail mail a d (misnamed g) = refl
  applied_tail mail a d (takes {q = q} {k = k} g e f) =
      ap (λ (r : List ℕ). submitted (applied w mail (Ok (decide.Take q k))).answer (with_room (world_taken w q mail k) r))
      (filled_tail k (part 0 (need_of q) mail) w.room below roomed fits t)
    where
      below : k < slot_count
      below = omega (arith, (lowest_free_is w.row k f).inside, (lent_sized w g.asking.passing.lent).rowed)

      fits : length (part 0 (need_of q) mail) ≤ slot_room
      fits = omega (arith, length_part 0 (need_of q) mail (omega (arith, g.enough)), need_small q)
  applied_tail mail a d (closes o n) = refl
  applied_tail mail a d rests = refl
  applied_tail mail a d (opens p o e) = refl

  command_tail : (bytes mail : List ℕ)
      → submit_command v bytes mail ≡ submitted (submit_command w bytes mail).answer (tailed (submit_command w bytes mail).world)
  unfolding submit_command
  command_tail bytes mail =
      ap (applied v mail) (command_same bytes mail)
      ∙ applied_tail mail (command_asked w.hca.logs bytes) (decide_command w bytes mail) (command_decided w bytes mail)

  engine_tail : (n index psn code : ℕ)
      → submit_engine v n index psn code ≡ submitted (submit_engine w n index psn code).answer
      (tailed (submit_engine w n index psn code).world)
  unfolding submit_engine
  engine_tail n index psn code =
      ap (applied v []) (engine_same n index psn code)
      ∙ applied_tail [] (engine_asked w.hca.logs n index psn code) (decide_engine w n index psn code) (engine_decided w n index psn code)

  -- a burst leaves the tail
  module _ (k : ℕ) (q : Request) (m : ℕ) (s : Stepping w k q m) where
    memory_tail : memory_moved v k q m ≡ memory_moved w k q m
    unfolding memory_moved
    memory_tail =
        ap (λ (front : List ℕ). pick (writes_of q) (written w.hca.logs w.memory q front m) w.memory)
        (front_tail k w.room (step_slot w k q m s) roomed q t)

    moved_room_tail : room_moved v k q m ≡ room_moved w k q m ++ t
    unfolding room_moved
    moved_room_tail =
        pick_through (λ (r : List ℕ). r ++ t) (writes_of q) _ _ _ _ (λ _. refl)
        (λ _. copied_tail k (offset_of q m) (read_out w.hca.logs w.memory q m) w.room (step_slot w k q m s) roomed
        (in_part w k q m s) t)

    moved_tail : world_moved v k q m ≡ tailed (world_moved w k q m)
    unfolding world_moved slot_moved
    moved_tail =
        ap₂ (λ (x : Memory) (r : List ℕ). record { hca = w.hca; row = (world_moved w k q m).row; memory = x; room = r })
        memory_tail moved_room_tail

  abbrev step_tailed : Stepped → Stepped
  step_tailed s = stepped s.answer (tailed s.world)

  step_on_tail : bad_lent w ≡ false → bad_state w ≡ false → (k : ℕ) (s : Status) → status_at k w.row ≡ s
      → step_on v k s ≡ step_tailed (step_on w k s)
  unfolding step_on slot_moved
  step_on_tail l p k Free e = refl
  step_on_tail l p k (Running m q) e =
      ap (stepped (Ok (left_of (slot_moved w k))))
      (moved_tail k q m (record { lent = l; possible = p; opened = running_open w p k q m e w.hca.«open» refl; now = e }))
  step_on_tail l p k (Finished m q) e = refl

  step_tail : (k : ℕ) → step_of v k ≡ step_tailed (step_of w k)
  unfolding step_of bad_state
  step_tail k =
      ap (λ (b : Bool). pick b (step_refused v cause.BadLength)
      (pick (bad_state w) (step_refused v cause.Impossible) (step_on v k (status_at k w.row))))
      lent_same
      ∙ pick_through step_tailed (bad_lent w) _ _ _ _ (λ _. refl)
      (λ l. pick_through step_tailed (bad_state w) _ _ _ _ (λ _. refl) (λ p. step_on_tail l p k (status_at k w.row) refl))

  -- a collection looks at its slot's part alone
  abbrev collect_tailed : Collected → Collected
  collect_tailed c = collected c.answer (tailed c.world) c.out

  collect_on_tail : bad_lent w ≡ false → (k : ℕ) (out : List ℕ) (s : Status) → status_at k w.row ≡ s
      → collect_on v k out s ≡ collect_tailed (collect_on w k out s)
  unfolding collect_on collect_finished answer_at world_freed
  collect_on_tail l k out Free e = refl
  collect_on_tail l k out (Running m q) e = refl
  collect_on_tail l k out (Finished m q) e =
      pick_through collect_tailed (ltb (length out) (answer_size q)) _ _ _ _ (λ _. refl)
      (λ _. ap (λ (r : List ℕ). collected (Ok (answer_size q)) (tailed (world_freed w k)) (splice 0 (answer_of q r) out))
      (room_tail k w.room (in_row w (lent_sized w l) k occupied) roomed t))
    where
      occupied : ¬ (status_at k w.row ≡ Free)
      occupied f = let g : Finished m q ≡ Free = sym e ∙ f in let x : ◌≡◌ {A = ℕ} 0 1 = cc in omega arith

  collect_tail : (k : ℕ) (out : List ℕ) → collect_of v k out ≡ collect_tailed (collect_of w k out)
  unfolding collect_of bad_state
  collect_tail k out =
      ap (λ (b : Bool). pick b (collect_refused v out cause.BadLength)
      (pick (bad_state w) (collect_refused v out cause.Impossible) (collect_on v k out (status_at k w.row)))) lent_same
      ∙ pick_through collect_tailed (bad_lent w) _ _ _ _ (λ _. refl)
      (λ l. pick_through collect_tailed (bad_state w) _ _ _ _ (λ _. refl) (λ _. collect_on_tail l k out (status_at k w.row) refl))

  abbrev reset_tailed : Reset → Reset
  reset_tailed r = resetted r.answer (tailed r.world)

  row_same : bad_row v ≡ bad_row w
  unfolding bad_row
  row_same = rw (short_same room_size w.room t roomed)

  reset_tail : reset_of v ≡ reset_tailed (reset_of w)
  unfolding reset_of
  reset_tail =
      ap (λ (b : Bool). pick b (resetted (Err cause.BadLength) v) (resetted (Ok tt) (world_reset v))) row_same
      ∙ pick_through reset_tailed (bad_row w) (resetted (Err cause.BadLength) w) (resetted (Ok tt) (world_reset w)) _ _
      (λ _. refl) (λ _. refl)

pub room_front : RoomFront
room_front w t (command bytes mail) h =
    let e = command_tail w t h bytes mail in
    (ap (λ (s : Submitted). calls.submitted s.answer) e, ap (λ (s : Submitted). s.world) e)
room_front w t (engine_request n index psn code) h =
    let e = engine_tail w t h n index psn code in
    (ap (λ (s : Submitted). calls.submitted s.answer) e, ap (λ (s : Submitted). s.world) e)
room_front w t (step k) h =
    let e = step_tail w t h k in
    (ap (λ (s : Stepped). calls.stepped s.answer) e, ap (λ (s : Stepped). s.world) e)
room_front w t (collection k out) h =
    let e = collect_tail w t h k out in
    (ap (λ (c : Collected). calls.collected c.answer c.out) e, ap (λ (c : Collected). c.world) e)
room_front w t resetting h =
    let e = reset_tail w t h in
    (ap (λ (r : Reset). calls.reset_done r.answer) e, ap (λ (r : Reset). r.world) e)
