-- Every call but one that begins a list, or a reset that answers 0, is an event.
use Rattle.std.specs.Prelude.{◌≡◌, Bool, true, false, ℕ, ◌+◌, ◌<◌, length, Option, Some, None, Ok}
use Rattle.std.proofs.Math.Path.{refl, ap, subst}
use Rattle.std.proofs.Common.{sym, ◌∙◌, true≢false, arith, get_or-set_same}
use mathlib.Core.List.{List, []}
use Rattle.std.proofs.Math.Decide.{dec_lt}
use borrow.Author.Tests.{ltb-false}
use Rattle.std.proofs.Math.ListN.{take}
use Rattle.words.specs.Choice.{pick}
use Rattle.words.specs.Parts.{part, splice}
use Rattle.words.proofs.Parts.{part_splice}
use Rattle.requests.specs.declared.Request.{Request}
use Rattle.engines.specs.Engines.{read_number, read_engine}
use Rattle.engines.specs.declared.EngineAsked.{EngineAsked}
use Rattle.engines.specs.declared.EngineNumber.{EngineNumber}
use Rattle.engines.specs.declared.EngineAsked.TheVariants as asked
use Rattle.request_table.specs.Records.{writes_of}
use Rattle.burst_table.specs.Bursts.{total_of}
use Rattle.burst_table.specs.Sizes.{slot_count}
use Rattle.burst_table.proofs.Laws.{records_room}
use Rattle.answers.specs.Answers.{answer_size}
use Rattle.answers.proofs.Laws.{length_answer}
use Rattle.bursts.specs.Room.{room_of, front_of}
use Rattle.bursts.proofs.Room.{length_room}
use Rattle.slots.specs.Slots.{slot}
use Rattle.slots.specs.declared.Slot.{Slot}
use Rattle.slots.specs.declared.Status.TheVariants.{Free, Finished}
use Rattle.serial.specs.Slots.{collect as collecting}
use Rattle.serial.proofs.Told.{silence, out as emptied}
use Rattle.rules.specs.World.{World, status_at}
use Rattle.rules.specs.Commands.{decide_command, submit_command}
use Rattle.rules.specs.Engines.{decide_engine, submit_engine}
use Rattle.rules.specs.Steps.{Stepped, world_moved, step_of}
use Rattle.rules.specs.Collections.{Collected, answer_at, world_freed, collect_of}
use Rattle.rules.specs.Resets.{Reset, reset_of}
use Rattle.rules.specs.Calls.{Call, command, engine_request, step, collection, resetting, answer_to, world_after, Asked, engine_found_asked}
use Rattle.rules.specs.Calls.{number_asked, command_asked, engine_asked, collect_note, note_of, is_done, is_init, initialises, reset_ends, stops}
use Rattle.rules.proofs.Laws.Lent.{Sized, lent_sized, in_row}
use Rattle.rules.specs.Laws.Decided.{Decided}
use Rattle.rules.proofs.Laws.Decided.{command_decided, engine_decided}
use Rattle.rules.specs.Laws.Outcomes.{Stepping, Collecting}
use Rattle.rules.proofs.Laws.Outcomes.{step_is, collect_is, reset_is}
use Rattle.rules.proofs.Proofs.System.{one}
use Rattle.rules.proofs.Proofs.View.{slot_view, Fine, look_same, others}
use Rattle.rules.proofs.Proofs.Writer.{writer_step, writer_last}
use Rattle.rules.proofs.Proofs.Reader.{reader_step, reader_last}
use Rattle.rules.proofs.Proofs.Admitted.{note_for, stays, applied_ok}

-- ---- a step

moved_ok : (w : World) (k : ℕ) (q : Request) (m : ℕ) → Stepping w k q m → Fine w (world_moved w k q m) silence
moved_ok w k q m s = by_kind (writes_of q) refl (dec_lt (m + 1) (total_of q))
  where
    by_kind : (b : Bool) → writes_of q ≡ b → Dec (m + 1 < total_of q) → Fine w (world_moved w k q m) silence
    by_kind true wr (yes h) = writer_step w k q m s wr h
    by_kind true wr (no h) = writer_last w k q m s wr (omega arith)
    by_kind false rd (yes h) = reader_step w k q m s rd h
    by_kind false rd (no h) = reader_last w k q m s rd (omega arith)

step_ok : (w : World) (k : ℕ) → Fine w (step_of w k).world silence
step_ok w k = step_is w k (λ (s : Stepped). Fine w s.world silence) (λ _. stays w) (moved_ok w k)

-- ---- a collection

module _ (w : World) (k : ℕ) (out : List ℕ) (q : Request) (c : Collecting w k out q) where
  pub collect_sized : Sized w
  collect_sized = lent_sized w c.lent

  pub collect_slot : k < slot_count
  collect_slot =
      in_row w collect_sized k (λ f. let g : Finished c.moves q ≡ Free = sym c.now ∙ f in let x : ◌≡◌ {A = ℕ} 0 1 = cc in omega arith)

  pub answer_long : length (answer_at w k q) ≡ answer_size q
  unfolding answer_at
  answer_long =
      length_answer q (room_of k w.room)
      (omega (arith, length_room k w.room collect_slot collect_sized.roomed, records_room q))

  -- the front of the buffer is the answer
  wrote : take (answer_size q) (splice 0 (answer_at w k q) out) ≡ answer_at w k q
  unfolding part
  wrote =
      ap (λ (n : ℕ). take n (splice 0 (answer_at w k q) out)) (sym answer_long)
      ∙ part_splice 0 (answer_at w k q) out (omega (arith, answer_long, ltb-false (length out) (answer_size q) c.enough))

  freed_ok : Fine w (world_freed w k) (note_for (collect_note k (splice 0 (answer_at w k q) out) (Ok (answer_size q))))
  unfolding answer_at status_at world_freed
  freed_ok =
      subst (λ (a : List ℕ). Fine w (world_freed w k) (emptied k a)) (sym wrote)
      (record {
        note = _;
        tells = refl;
        ended = [];
        event =
            collecting (one q (front_of k q w.room)) (ap (slot_view k w.room) c.now)
            (ap (λ (s : Slot). slot_view k w.room s.status)
            (get_or-set_same w.row k (slot Free) (slot Free) (omega (arith, collect_sized.rowed, collect_slot))))
            (others w (world_freed w k) k (slot Free) collect_sized refl (λ j _ _. refl) (λ j r _ _. refl))
            (look_same w (world_freed w k) refl refl);
      })

collect_ok : (w : World) (k : ℕ) (out : List ℕ)
    → Fine w (collect_of w k out).world (note_for (collect_note k (collect_of w k out).out (collect_of w k out).answer))
collect_ok w k out =
    collect_is w k out (λ (c : Collected). Fine w c.world (note_for (collect_note k c.out c.answer))) (λ _. stays w)
    (freed_ok w k out)

-- ---- every call

-- a reset that is refused
reset_ok : (w : World) → reset_ends (reset_of w).answer ≡ false → Fine w (reset_of w).world silence
reset_ok w =
    reset_is w (λ (r : Reset). reset_ends r.answer ≡ false → Fine w r.world silence) (λ _ _. stays w) (λ _ i. absurd (true≢false i))

-- no engine request asks for an initialisation
pub no_init : (a : Asked) (b : Bool) → is_init a ≡ false → pick (is_init a) b false ≡ false
no_init a b e = rw e

found_no_init : (f : Option EngineAsked) → is_init (engine_found_asked f) ≡ false
found_no_init (Some (asked.OnRecord e)) = refl
found_no_init (Some (asked.Joined n)) = refl
found_no_init None = refl

pub number_no_init : (w : World) (index psn code : ℕ) (f : Option EngineNumber) → is_init (number_asked w.hca.logs index psn code f) ≡ false
number_no_init w index psn code (Some k) = found_no_init (read_engine w.hca.logs k index psn code)
number_no_init w index psn code None = refl

pub call_ok : (w : World) (c : Call) → stops w c ≡ false → Fine w (world_after w c) (note_for (note_of w.hca.logs c (answer_to w c)))
unfolding initialises submit_command submit_engine
call_ok w (command bytes mail) i =
    applied_ok w mail (command_asked w.hca.logs bytes) (decide_command w bytes mail) (command_decided w bytes mail) i
call_ok w (engine_request n index psn code) i =
    applied_ok w [] (engine_asked w.hca.logs n index psn code) (decide_engine w n index psn code) (engine_decided w n index psn code)
    (no_init (engine_asked w.hca.logs n index psn code) (is_done (submit_engine w n index psn code).answer)
    (number_no_init w index psn code (read_number n)))
call_ok w (step k) i = step_ok w k
call_ok w (collection k out) i = collect_ok w k out
call_ok w resetting i = reset_ok w i
