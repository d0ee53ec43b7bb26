-- What a call leaves that begins a list: the adapter is open, no slot is occupied, every record is zero, and what was lent is as long as
-- it has to be.
use Rattle.std.specs.Prelude.{◌≡◌, refl, Bool, true, false, List, [], ℕ, replicate, Result}
use Rattle.std.proofs.Common.{ap}
use Rattle.std.proofs.lemmas.Bool.{false≢true}
use Rattle.words.specs.Choice.{pick}
use Rattle.context.specs.Layout.{is_record, record_size}
use Rattle.context.proofs.Counts.{init_fits}
use Rattle.context.specs.declared.Record.{Record}
use Rattle.records.specs.Memory.{record_in, Fits}
use Rattle.records.specs.Laws.{zeroed_record, length_zeroed, fits_zeroed}
use Rattle.slots.specs.declared.Status.TheVariants.{Free}
use Rattle.rules.specs.World.{World, store_length, status_at}
use Rattle.rules.specs.Admission.{world_opened, applied}
use Rattle.rules.specs.Commands.{decide_command, submit_command}
use Rattle.rules.specs.Calls.{Call, command, engine_request, step, collection, resetting, world_after}
use Rattle.rules.specs.Calls.{Asked, command_asked, is_done, is_init, initialises, begins}
use Rattle.rules.proofs.Laws.Lent.{Sized, lent_sized, closed_free}
use Rattle.rules.specs.Laws.Decided.{Decided, plain, denied, takes, closes, rests, opens, misnamed}
use Rattle.rules.proofs.Laws.Decided.{command_decided}
use Rattle.rules.specs.declared.Decision.{Decision}
use Rattle.rules.specs.declared.Refusal.{Refusal}

pub record Started (w : World) : Type 0 where
  pub opened : w.hca.«open» ≡ true
  pub freed : (k : ℕ) → status_at k w.row ≡ Free
  pub zeroed : (X : Record) → is_record w.hca.logs X ≡ true → record_in w.hca.logs w.memory X ≡ replicate (record_size X) 0
  pub fits : Fits w.hca.logs w.memory
  pub sized : Sized w
  pub stored : store_length w ≡ w.hca.store_len

no_done : (b : Bool) {A : Type 0} → pick b false false ≡ true → A
no_done true e = absurd (false≢true e)
no_done false e = absurd (false≢true e)

applied_started : (w : World) (mail : List ℕ) (a : Asked) (d : Result Decision Refusal) → Decided w mail a d
    → pick (is_init a) (is_done (applied w mail d).answer) false ≡ true → Started (applied w mail d).world
unfolding world_opened
applied_started w mail a d (plain {a = x} c e) i = no_done (is_init x) i
applied_started w mail a d (denied g e) i = absurd (false≢true i)
applied_started w mail a d (misnamed g) i = absurd (false≢true i)
applied_started w mail a d (takes g e f) i = absurd (false≢true i)
applied_started w mail a d (closes o n) i = absurd (false≢true i)
applied_started w mail a d rests i = absurd (false≢true i)
applied_started w mail a d (opens {g = g} p o e) i =
    let f : Fits g w.memory = init_fits mail (store_length w) g e in
    record {
      opened = refl;
      freed = closed_free w p.possible o;
      zeroed = zeroed_record g w.memory f;
      fits = fits_zeroed g w.memory f;
      sized = record { rowed = (lent_sized w p.lent).rowed; roomed = (lent_sized w p.lent).roomed };
      stored = length_zeroed g w.memory f;
    }

pub started : (w : World) (c : Call) → begins w c ≡ true → Started (world_after w c)
unfolding initialises submit_command
started w (command bytes mail) i =
    applied_started w mail (command_asked w.hca.logs bytes) (decide_command w bytes mail) (command_decided w bytes mail) i
started w (engine_request n index psn code) i = absurd (false≢true i)
started w (step k) i = absurd (false≢true i)
started w (collection k out) i = absurd (false≢true i)
started w resetting i = absurd (false≢true i)
