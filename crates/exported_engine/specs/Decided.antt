-- The submission of an engine request on the device's bytes, as the code makes it.
use Rattle.std.specs.Prelude.{◌≡◌, Bool, true, false, List, [], ℕ, length, Option, Result}
use Rattle.std.proofs.Math.Path.{refl}
use Rattle.std.proofs.Common.{sym, ◌∙◌, ap}
use Rattle.engines.specs.Engines.{read_number}
use Rattle.engines.specs.declared.EngineNumber.{EngineNumber}
use Rattle.possible.specs.declared.Hca.{Hca}
use Rattle.rules.specs.World.{World, world, bad_lent, bad_state}
use Rattle.rules.specs.Admission.{applied}
use Rattle.rules.specs.Engines.{decide_number, decide_engine, submit_engine}
use Rattle.rules.specs.Laws.Decided.{Passing}
use Rattle.rules.specs.declared.Decision.{Decision}
use Rattle.rules.specs.declared.Refusal.{Refusal}
use Rattle.deciding.specs.Ready.{passing_fits}
use Rattle.applying.specs.Applies.{engine_applies}
use Rattle.device_bytes.specs.Decoding.{row_of, hca_of}
use Rattle.device_calls.specs.Calls.{world_of, Left, left, submit_left, engine_call}
use Rattle.device_calls.proofs.Decodes.{flag_right}
use Rattle.device_calls.specs.Tests.{first_number, world_number, Tested}
use Rattle.device_calls.proofs.Tests.{first_is, tested}
use Rattle.exported_apply.specs.Applied.{Ready}
use Rattle.exported_engine.specs.Asked.{NumberReady}

module _ (dev store room : List ℕ) (t : Tested dev store room) (h : Hca) (is : h ≡ hca_of dev) where
  pub number_ready : NumberReady h dev store
  number_ready = record {
    row = record { sized = t.sized; flag = flag_right dev store room t.sized t.passing.possible };
    fits = rw is (passing_fits (hca_of dev) (row_of dev) store room t.passing);
  }

  module _ (number index psn state : ℕ) (f : Option EngineNumber) (d : Result Decision Refusal) (found : f ≡ read_number number)
      (told : (rm : List ℕ) → d ≡ decide_number (world h (row_of dev) store rm) index psn state f) where
    pub decided : d ≡ decide_number (world_of dev store room) index psn state (read_number number)
    decided =
        told room
        ∙ ap (λ (x : Hca). decide_number (world x (row_of dev) store room) index psn state f) is
        ∙ ap (decide_number (world_of dev store room) index psn state) found

    -- the first tests passed, so that the number decides
    engine_is : decide_engine (world_of dev store room) number index psn state ≡ d
    unfolding decide_engine
    engine_is = rw (t.passing.lent, t.passing.possible) (sym decided)

    pub can_apply : Ready h dev (length store) (length room) 0 d
    can_apply = record {
      sized = t.sized;
      is = is;
      applies = rw engine_is at (engine_applies (world_of dev store room) number index psn state);
    }

    pub left_decided : (x : Left) → x ≡ submit_left dev (applied (world_of dev store room) [] d)
        → x ≡ submit_left dev (applied (world_of dev store room) [] (decide_number (world_of dev store room) index psn state (read_number number)))
    left_decided x e = e ∙ ap (λ (y : Result Decision Refusal). submit_left dev (applied (world_of dev store room) [] y)) decided

module _ (dev store room : List ℕ) (number index psn state n : ℕ) (asked : n ≡ first_number dev (length store) (length room)) where
  pub left_refused : ¬ (n ≡ 0) → left n dev store room ≡ engine_call dev store room number index psn state
  unfolding engine_call submit_left submit_engine decide_engine
  left_refused z = rw (asked ∙ first_is dev store room) (go (bad_lent w) refl (bad_state w) refl)
    where
      w : World
      w = world_of dev store room

      go : (a : Bool) → bad_lent w ≡ a → (b : Bool) → bad_state w ≡ b
          → left (world_number w) dev store room ≡ submit_left dev (submit_engine w number index psn state)
      go true e b f = rw e
      go false e true f = rw (e, f)
      go false e false f = absurd (z (asked ∙ first_is dev store room ∙ rw (e, f)))

  pub left_submitted : n ≡ 0 → (x : Left)
      → x ≡ submit_left dev (applied (world_of dev store room) [] (decide_number (world_of dev store room) index psn state (read_number number)))
      → x ≡ engine_call dev store room number index psn state
  unfolding engine_call submit_engine decide_engine
  left_submitted z x e =
      let p : Passing (world_of dev store room) = (tested dev store room n asked z).passing in
      rw (p.lent, p.possible) e
