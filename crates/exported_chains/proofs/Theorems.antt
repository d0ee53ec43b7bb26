-- THE THEOREMS about chains of calls of the exported functions. They assume nothing; the statements are those of `chains`, of this form
-- of the operations.
use Rattle.std.specs.Prelude.{◌≡◌, refl, true, List, [], ℕ, ◌*◌, ◌^◌, ◌<◌, length, Result, Ok, Err}
use Rattle.std.proofs.Common.{sym, ◌∙◌, ap, subst}
use Rattle.std.proofs.lemmas.Bool.{false≢true}
use Rattle.words.specs.Words.{AreBytes}
use Rattle.possible.specs.declared.Hca.{Hca}
use Rattle.rules.specs.World.{World, world, bad_row, bad_lent}
use Rattle.rules.specs.Admission as admission
use Rattle.rules.specs.Commands.{submit_command, decide_command}
use Rattle.rules.specs.Engines.{submit_engine, decide_engine}
use Rattle.rules.specs.Steps as steps
use Rattle.rules.specs.Steps.{step_of}
use Rattle.rules.specs.Collections as collections
use Rattle.rules.specs.Collections.{collect_of}
use Rattle.rules.specs.Resets as resets
use Rattle.rules.specs.Resets.{reset_of}
use Rattle.rules.specs.Numbers.{reset_number}
use Rattle.rules.specs.Frames.{refused_by}
use Rattle.rules.specs.Calls.{Call, command, engine_request, step, collection, resetting}
use Rattle.rules.specs.Calls.{Answer, submitted, stepped, collected, reset_done, answer_to}
use Rattle.rules.specs.declared.Refusal.{Refusal}
use Rattle.rules.specs.declared.Submission.{Submission}
use Rattle.rules.specs.declared.Submission.TheVariants as submit
use Rattle.device_calls.specs.Calls.{world_of, Left, left, Taken, taken, Emptied, emptied, submit_code, submit_left, command_call, engine_call}
use Rattle.device_calls.specs.Calls.{step_code, step_left, step_call, collect_code, collect_left, collect_call, reset_left, reset_call}
use Rattle.device_calls.specs.Calls.{submit_device, step_device, collect_device, reset_device}
use Rattle.device_calls.proofs.Tests.{other_length}
use Rattle.device_calls.specs.Stays.{Written}
use Rattle.device_calls.proofs.Stays.{command_stays, engine_stays, step_stays, collect_stays, reset_stays}
use Rattle.device_calls.proofs.Decodes.{command_decodes, engine_decodes, step_decodes, collect_decodes, reset_decodes}
use Rattle.chains.specs.Links.{Promised, command_promised, engine_promised, step_promised, collect_promised, reset_promised}
use Rattle.chains.specs.Claims.{Promises, Fixed, Refusals, States, Fronts, Serial, Holding, Zeroed}
use Rattle.chains.proofs.Theorems.{every_form}
use Rattle.exported_chains.specs.Links.{Buffers, buffers, Ensured, command_ensured, engine_ensured, step_ensured, collect_ensured, reset_ensured}
use Rattle.exported_chains.specs.Links.{world_in, DeviceLink, whole, other}

-- ---- the number that a call gives is that of the rules' answer

abbrev pub code_of : Answer → ℕ
code_of (submitted a) = submit_code a
code_of (stepped a) = step_code a
code_of (collected a out) = collect_code a
code_of (reset_done a) = reset_number a

pub numbers : (c : Call) (b b' : Buffers) (r : ℕ) (o : List ℕ) → Ensured c b r b' o → r ≡ code_of (answer_to (world_in b) c)
unfolding command_call engine_call submit_left step_call step_left collect_call collect_left reset_call reset_left
numbers c b b' r o (command_ensured e) = ap (λ (x : Left). x.answer) e
numbers c b b' r o (engine_ensured e) = ap (λ (x : Left). x.answer) e
numbers c b b' r o (step_ensured e) = ap (λ (x : Left). x.answer) e
numbers c b b' r o (collect_ensured e) = ap (λ (x : Taken). x.answer) e
numbers c b b' r o (reset_ensured e) = ap (λ (x : Emptied). x.answer) e

-- and what a collection leaves in its buffer is what the answer has
pub outputs : (d s m d' out o : List ℕ) (k r : ℕ) → taken r d' o ≡ collect_call d s m k out → o ≡ (collect_of (world_of d s m) k out).out
unfolding collect_call collect_left
outputs d s m d' out o k r e = ap (λ (x : Taken). x.out) e

-- ---- a device that is lent whole: the bytes left decode to the world that the rules leave

worlds : (x y : Left) → x ≡ y → world_of x.device x.store x.room ≡ world_of y.device y.store y.room
worlds x y e = ap (λ (z : Left). world_of z.device z.store z.room) e

whole_promised : (c : Call) (b b' : Buffers) (r : ℕ) (o : List ℕ) → AreBytes b.device → length b.store < 2 ^ 64 → Ensured c b r b' o
    → Promised (world_in b) c (answer_to (world_in b) c) (world_in b')
unfolding collect_call collect_left reset_call
whole_promised c b b' r o a n (command_ensured {d} {s} {m} {d'} {s'} {m'} {bytes} {mail} e) =
    command_promised (ap (admission.submitted _) (worlds _ _ e ∙ command_decodes d s m mail a n bytes))
whole_promised c b b' r o a n (engine_ensured {d} {s} {m} {number = number} {index = index} {psn = psn} {state = state} e) =
    engine_promised (ap (admission.submitted _) (worlds _ _ e ∙ engine_decodes d s m a n number index psn state))
whole_promised c b b' r o a n (step_ensured {d} {s} {m} {k = k} e) =
    step_promised (ap (steps.stepped _) (worlds _ _ e ∙ step_decodes d s m k))
whole_promised c b b' r o a n (collect_ensured {d} {s} {m} {out = out} {k = k} e) =
    collect_promised
    (ap (λ (w : World). collections.collected (collect_of (world_of d s m) k out).answer w (collect_of (world_of d s m) k out).out)
    (ap (λ (x : Taken). world_of x.device s m) e ∙ collect_decodes d s m k out))
whole_promised c b b' r o a n (reset_ensured {d} {s} {m} e) =
    reset_promised (ap (resets.resetted _) (ap (λ (x : Emptied). world_of x.device s m) e ∙ reset_decodes d s m a))

-- ---- one of another length: every call is refused, and nothing changes

-- store and room are as they were lent
same_two : (a : ℕ) (d d' s s' m m' : List ℕ) (r : ℕ) → left r d' s' m' ≡ left a d s m → (h : Hca) → world h [] s' m' ≡ world h [] s m
same_two a d d' s s' m m' r e h = ap (λ (x : Left). world h [] x.store x.room) e

other_promised : (c : Call) (b b' : Buffers) (r : ℕ) (o : List ℕ) (h : Hca) → ¬ (length b.device ≡ 288) → Ensured c b r b' o
    → Promised (world h [] b.store b.room) c (answer_to (world h [] b.store b.room) c) (world h [] b'.store b'.room)
unfolding command_call engine_call submit_left submit_command decide_command submit_engine decide_engine step_call step_left step_of collect_of reset_of bad_lent bad_row
other_promised c b b' r o h n (command_ensured {d} {s} {m} {d'} {s'} {m'} {bytes} {mail} e) =
    let f : left r d' s' m' ≡ left 0x83 d s m = rw (other_length d s m n) at e in
    command_promised (ap (admission.submitted _) (same_two 0x83 d d' s s' m m' r f h))
other_promised c b b' r o h n (engine_ensured {d} {s} {m} {d'} {s'} {m'} e) =
    let f : left r d' s' m' ≡ left 0x83 d s m = rw (other_length d s m n) at e in
    engine_promised (ap (admission.submitted _) (same_two 0x83 d d' s s' m m' r f h))
other_promised c b b' r o h n (step_ensured {d} {s} {m} {d'} {s'} {m'} e) =
    let f : left r d' s' m' ≡ left 0x83 d s m = rw (other_length d s m n) at e in
    step_promised (ap (steps.stepped _) (same_two 0x83 d d' s s' m m' r f h))
other_promised c b b' r o h n (collect_ensured {d} {s} {m} e) = collect_promised refl
other_promised c b b' r o h n (reset_ensured {d} {s} {m} e) = reset_promised refl

-- ---- the demands

-- what each function ensures gives the promise
pub promises : Promises DeviceLink
promises u v _ a (whole c b b' r o l y n e) = whole_promised c b b' r o y n e
promises u v _ a (other c b b' r o h n e) = other_promised c b b' r o h n e

-- a call answers and leaves what the rules say
pub fixed : Fixed DeviceLink
fixed = (every_form DeviceLink promises).fixed

-- a refusal leaves everything
pub refusals : Refusals DeviceLink
refusals = (every_form DeviceLink promises).refusals

-- a queue pair's state moves only along permitted edges, by the next call after every chain and so by every call of it
pub demand2 : States DeviceLink
demand2 = (every_form DeviceLink promises).states

pub fronts : Fronts DeviceLink
fronts = (every_form DeviceLink promises).fronts

-- the finished requests, given to the plain book in the order of acceptance, are all accepted; records, answers and refusals are the
-- book's
pub demand3 : Serial DeviceLink
demand3 = (every_form DeviceLink promises).serial

-- while a joined read runs, the names in its slot are those in the store, and those that the book finds at its place
pub running : Holding DeviceLink
running = (every_form DeviceLink promises).holding

-- the book starts with records that are all zero
pub zeroed : Zeroed DeviceLink
zeroed = (every_form DeviceLink promises).zeroed

-- ---- the bytes themselves

submit_kept : (dev : List ℕ) (a : Result Submission Refusal) (w : World) → refused_by (submitted a) ≡ true → submit_device dev a w ≡ dev
submit_kept dev (Ok submit.Done) w e = absurd (false≢true e)
submit_kept dev (Ok (submit.Accepted k)) w e = absurd (false≢true e)
submit_kept dev (Err c) w e = refl

step_kept : (dev : List ℕ) (k : ℕ) (a : Result ℕ Refusal) (w : World) → refused_by (stepped a) ≡ true → step_device dev k a w ≡ dev
step_kept dev k (Ok n) w e = absurd (false≢true e)
step_kept dev k (Err c) w e = refl

collect_kept : (dev : List ℕ) (k : ℕ) (a : Result ℕ Refusal) (w : World) (out : List ℕ) → refused_by (collected a out) ≡ true
    → collect_device dev k a w ≡ dev
collect_kept dev k (Ok n) w out e = absurd (false≢true e)
collect_kept dev k (Err c) w out e = refl

reset_kept : (dev : List ℕ) (a : Result (Unit {0}) Refusal) (w : World) → refused_by (reset_done a) ≡ true → reset_device dev a w ≡ dev
reset_kept dev (Ok tt) w e = absurd (false≢true e)
reset_kept dev (Err c) w e = refl

device_kept : (c : Call) (b b' : Buffers) (r : ℕ) (o : List ℕ) → Ensured c b r b' o → refused_by (answer_to (world_in b) c) ≡ true
    → b'.device ≡ b.device
unfolding command_call engine_call submit_left step_call step_left collect_call collect_left reset_call reset_left
device_kept c b b' r o (command_ensured {d} {s} {m} {bytes = bytes} {mail = mail} e) f =
    let x = submit_command (world_of d s m) bytes mail in ap (λ (y : Left). y.device) e ∙ submit_kept d x.answer x.world f
device_kept c b b' r o (engine_ensured {d} {s} {m} {number = number} {index = index} {psn = psn} {state = state} e) f =
    let x = submit_engine (world_of d s m) number index psn state in
    ap (λ (y : Left). y.device) e ∙ submit_kept d x.answer x.world f
device_kept c b b' r o (step_ensured {d} {s} {m} {k = k} e) f =
    let x = step_of (world_of d s m) k in ap (λ (y : Left). y.device) e ∙ step_kept d k x.answer x.world f
device_kept c b b' r o (collect_ensured {d} {s} {m} {out = out} {k = k} e) f =
    let x = collect_of (world_of d s m) k out in ap (λ (y : Taken). y.device) e ∙ collect_kept d k x.answer x.world x.out f
device_kept c b b' r o (reset_ensured {d} {s} {m} e) f =
    let x = reset_of (world_of d s m) in ap (λ (y : Emptied). y.device) e ∙ reset_kept d x.answer x.world f

-- a refusal changes no byte of device, store and room
pub unchanged : (c : Call) (b b' : Buffers) (r : ℕ) (o : List ℕ) → length b.device ≡ 288 → AreBytes b.device
    → length b.store < 2 ^ 64 → Ensured c b r b' o → refused_by (answer_to (world_in b) c) ≡ true → b' ≡ b
unchanged c b b' r o l a n e f =
    let same : world_in b' ≡ world_in b = (refusals (world_in b) (world_in b') c (answer_to (world_in b) c) [] (whole c b b' r o l a n e) f).0 in
    ap (λ (d : List ℕ). buffers d b'.store b'.room) (device_kept c b b' r o e f)
    ∙ ap (λ (w : World). buffers b.device w.memory.store w.room) same

-- a device that is written as we write it stays so
pub written : (c : Call) (b b' : Buffers) (r : ℕ) (o : List ℕ) → AreBytes b.device → length b.store < 2 ^ 64 → Ensured c b r b' o
    → Written b.device → Written b'.device
written c b b' r o a n (command_ensured {d} {s} {m} {bytes = bytes} {mail = mail} e) w =
    subst Written (sym (ap (λ (x : Left). x.device) e)) (command_stays d s m w a mail n bytes)
written c b b' r o a n (engine_ensured {d} {s} {m} {number = number} {index = index} {psn = psn} {state = state} e) w =
    subst Written (sym (ap (λ (x : Left). x.device) e)) (engine_stays d s m w a n number index psn state)
written c b b' r o a n (step_ensured {d} {s} {m} {k = k} e) w = subst Written (sym (ap (λ (x : Left). x.device) e)) (step_stays d s m w k)
written c b b' r o a n (collect_ensured {d} {s} {m} {out = out} {k = k} e) w =
    subst Written (sym (ap (λ (x : Taken). x.device) e)) (collect_stays d s m w k out)
written c b b' r o a n (reset_ensured {d} {s} {m} e) w = subst Written (sym (ap (λ (x : Emptied). x.device) e)) (reset_stays d s m w a)
