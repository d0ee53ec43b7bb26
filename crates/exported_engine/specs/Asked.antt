-- What the stages of the decision ask for, and that the tests before them give it; what the bytes say of the row, as the decision asks.
use Rattle.std.specs.Prelude.{◌≡◌, refl, Bool, false, not, List, [], ◌∷◌, ℕ, Option, Some}
use Rattle.std.proofs.Common.{sym, ◌∙◌, ap, ap₂, subst}
use Rattle.context.specs.declared.Record.{Record}
use Rattle.requests.specs.declared.EngineRequest.{EngineRequest}
use Rattle.requests.specs.declared.EngineRequest.TheVariants as engine
use Rattle.requests.specs.declared.Request.{Request}
use Rattle.requests.specs.declared.Request.TheVariants as request
use Rattle.engines.specs.Engines.{read_engine}
use Rattle.engines.specs.declared.EngineNumber.{EngineNumber}
use Rattle.engines.specs.declared.EngineAsked.{EngineAsked}
use Rattle.engines.specs.declared.EngineAsked.TheVariants as asked
use Rattle.request_table.specs.Records.{record_of, records_of, writes_of}
use Rattle.records.specs.Calls.{Stored}
use Rattle.slots.specs.declared.Slot.{Slot}
use Rattle.rows.specs.Rows.{any_slot}
use Rattle.holds.specs.Holds.{clash_slot, held_against}
use Rattle.possible.specs.declared.Hca.{Hca}
use Rattle.rules.proofs.Laws.Found.{Alone, Valid, engine_valid}
use Rattle.deciding.specs.Ready.{OpenFits, EngineStored, engine_stored}
use Rattle.device_scans.specs.Scans.{HasRow}

-- a request on one record, which the memory has
pub record OnOne (h : Hca) (dev store : List ℕ) (q : Request) : Type 0 where
  pub row : HasRow dev
  pub stored : Stored h.logs store q
  pub alone : records_of q ≡ record_of q ∷ []

pub record FoundReady (h : Hca) (dev store : List ℕ) (f : Option EngineAsked) : Type 0 where
  pub row : HasRow dev
  pub stored : EngineStored h.logs store f
  pub valid : Valid h.logs f

pub record NumberReady (h : Hca) (dev store : List ℕ) : Type 0 where
  pub row : HasRow dev
  pub fits : OpenFits h store

-- a request that is found has the record of its index alone; a joined read is found by its queue pair
one_record : (e : EngineRequest) → Alone e → records_of (request.Engine e) ≡ record_of (request.Engine e) ∷ []
one_record (engine.ReadState n) a = refl
one_record (engine.ReadNext n) a = refl
one_record (engine.ReadAll n) a = refl
one_record (engine.Write p s n x) a = refl
one_record (engine.ReadJoined n c e) a = absurd a

pub on_one_lem : (h : Hca) (dev store : List ℕ) (f : Option EngineAsked) (e : EngineRequest) → FoundReady h dev store f → f ≡ Some (asked.OnRecord e)
    → OnOne h dev store (request.Engine e)
on_one_lem h dev store f e r i = record {
  row = r.row;
  stored = r.stored.stored e i;
  alone = one_record e (subst (Valid h.logs) i r.valid).1;
}

pub found_ready : (h : Hca) (dev store : List ℕ) (n : EngineNumber) (index psn state : ℕ) (f : Option EngineAsked) → NumberReady h dev store
    → not h.«open» ≡ false → f ≡ read_engine h.logs n index psn state → FoundReady h dev store f
found_ready h dev store n index psn state f r o e = record {
  row = r.row;
  stored = engine_stored h store n index psn state f r.fits o e;
  valid = subst (Valid h.logs) (sym e) (engine_valid h.logs n index psn state);
}

-- ---- what the calls answered

-- the hold: X is the request's record, and w whether it writes
pub held_asked : (q : Request) (row : List Slot) (X : Record) (w b : Bool) → records_of q ≡ record_of q ∷ [] → X ≡ record_of q → w ≡ writes_of q
    → b ≡ any_slot (clash_slot w (X ∷ [])) row → b ≡ held_against row q
unfolding held_against
held_asked q row X w b a e f i =
    i ∙ ap₂ (λ (v : Bool) (Xs : List Record). any_slot (clash_slot v Xs) row) f (ap (λ (Y : Record). Y ∷ []) e ∙ sym a)
