-- What the stages of a decision ask for, and that the tests before them give it.
use Rattle.std.specs.Prelude.{◌≡◌, Bool, true, false, not, List, ℕ, ◌≤◌, ◌<◌, ltb, length, Option, Some, Result}
use Rattle.std.proofs.Common.{sym, ◌∙◌, ap, subst, lt-ltb, le-ltb}
use Rattle.std.proofs.lemmas.Bool.{not-false}
use Rattle.words.proofs.Choice.{both_left}
use Rattle.context.specs.Layout.{is_record, ranges_hold, fits_store}
use Rattle.context.specs.declared.Logs.{Logs}
use Rattle.context.specs.declared.QpNumber.{QpNumber}
use Rattle.context.specs.declared.Record.TheVariants as rec
use Rattle.requests.specs.declared.EngineRequest.{EngineRequest}
use Rattle.requests.specs.declared.Request.{Request}
use Rattle.requests.specs.declared.Request.TheVariants as request
use Rattle.engines.specs.Engines.{read_engine}
use Rattle.engines.specs.declared.EngineNumber.{EngineNumber}
use Rattle.engines.specs.declared.EngineAsked.{EngineAsked}
use Rattle.engines.specs.declared.EngineAsked.TheVariants as asked
use Rattle.request_table.specs.Records.{record_of}
use Rattle.burst_table.specs.Sizes.{slot_count}
use Rattle.records.specs.Memory.{memory, Fits}
use Rattle.records.specs.Calls.{Stored}
use Rattle.slots.specs.declared.Slot.{Slot}
use Rattle.possible.proofs.Laws.{open_fits as fits-store}
use Rattle.possible.specs.Possible.{impossible}
use Rattle.possible.specs.declared.Hca.{Hca}
use Rattle.rules.specs.World.{World, world, bad_state}
use Rattle.rules.specs.Engines.{decide_number}
use Rattle.rules.proofs.Laws.Lent.{open_fits}
use Rattle.rules.proofs.Laws.Found.{Valid, engine_valid}
use Rattle.rules.specs.Laws.Decided.{Passing}
use Rattle.rules.specs.declared.Decision.{Decision}
use Rattle.rules.specs.declared.Refusal.{Refusal}
use Rattle.lengths.specs.Lengths.{lengths_wrong}
use Rattle.lengths.proofs.Lengths.{passing}
use Rattle.deciding_joined.specs.Named.{Has}

-- while open, the counts are within their ranges and the records lie in the lent memory
pub record OpenFits (h : Hca) (store : List ℕ) : Type 0 where
  pub ranges : h.«open» ≡ true → ranges_hold h.logs ≡ true
  pub fits : h.«open» ≡ true → Fits h.logs (memory store)

-- of a world that passed the first two tests
pub passing_fits : (h : Hca) (row : List Slot) (store room : List ℕ) → Passing (world h row store room) → OpenFits h store
unfolding bad_state fits_store
passing_fits h row store room p = record {
  ranges = λ o. both_left (ranges_hold h.logs) _ (fits-store h row o p.possible);
  fits = λ o. open_fits (world h row store room) p.lent p.possible o;
}

-- as they answered
pub tested_fits : (h : Hca) (row : List Slot) (store room : List ℕ) (a b : Bool) → length row ≡ slot_count
    → a ≡ lengths_wrong h (length store) (length room) → a ≡ false → b ≡ impossible h row → b ≡ false → OpenFits h store
tested_fits h row store room a b n e f i j = passing_fits h row store room (passing h row store room a b n e f i j)

-- a request on a record of an open state: the memory has that record
pub open_stored : (h : Hca) (store : List ℕ) (q : Request) → OpenFits h store → h.«open» ≡ true → is_record h.logs (record_of q) ≡ true
    → Stored h.logs store q
open_stored h store q f o v = record { ranges = f.ranges o; valid = v; fits = f.fits o }

-- the memory has the record of the engine request that is found; of a joined read, the queue pair
pub record EngineStored (g : Logs) (store : List ℕ) (f : Option EngineAsked) : Type 0 where
  pub stored : (e : EngineRequest) → f ≡ Some (asked.OnRecord e) → Stored g store (request.Engine e)
  pub joined : (n : QpNumber) → f ≡ Some (asked.Joined n) → Has g store (rec.Qp n)

pub engine_stored : (h : Hca) (store : List ℕ) (n : EngineNumber) (index psn state : ℕ) (f : Option EngineAsked) → OpenFits h store
    → not h.«open» ≡ false → f ≡ read_engine h.logs n index psn state → EngineStored h.logs store f
engine_stored h store n index psn state f r o e =
    let opened : h.«open» ≡ true = not-false h.«open» o in
    let valid : Valid h.logs f = subst (Valid h.logs) (sym e) (engine_valid h.logs n index psn state) in
    record {
      stored = λ x i. open_stored h store (request.Engine x) r opened (subst (Valid h.logs) i valid).0;
      joined = λ x i. record { ranges = r.ranges opened; valid = subst (Valid h.logs) i valid; fits = r.fits opened };
    }

-- ---- tests, as calls answered them

pub told_not : (r b t : Bool) → r ≡ b → not r ≡ t → not b ≡ t
told_not r b t e f = ap not (sym e) ∙ f

-- a length held against what a call answered is needed
pub short : (m n k : ℕ) → n ≡ k → m < n → ltb m k ≡ true
short m n k e h = sym (ap (ltb m) e) ∙ lt-ltb m n h

pub long : (m n k : ℕ) → n ≡ k → n ≤ m → ltb m k ≡ false
long m n k e h = sym (ap (ltb m) e) ∙ le-ltb m n h

-- the stage, at what the call before it answered
pub number_told : (w : World) (index psn state : ℕ) (v u : Option EngineNumber) (r : Result Decision Refusal) → v ≡ u
    → r ≡ decide_number w index psn state v → r ≡ decide_number w index psn state u
number_told w index psn state v u r e f = f ∙ ap (decide_number w index psn state) e
