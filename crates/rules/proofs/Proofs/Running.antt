-- What the holds of a joined read are for is proved: `serial` says of every running request that the book accepted it at its place, and
-- that what it holds still stands (Standing); the names that it was accepted with are those that the records have (Shown).
use Rattle.std.specs.Prelude.{◌≡◌, Bool, true, List, [], ◌∷◌, ◌++◌, ℕ}
use Rattle.std.proofs.Math.Path.{refl}
use Rattle.std.proofs.Common.{sym, ◌∙◌, ap, arith}
use Rattle.words.specs.Parts.{part}
use Rattle.context.specs.Layout.{is_record}
use Rattle.context.specs.declared.CqNumber.{CqNumber}
use Rattle.context.specs.declared.EqNumber.{EqNumber}
use Rattle.context.specs.declared.QpNumber.{QpNumber}
use Rattle.context.specs.declared.Record.TheVariants as rec
use Rattle.bursts.specs.Room.{front_of}
use Rattle.checks.specs.Fields.{cq_named, eq_named}
use Rattle.slots.specs.declared.Status.TheVariants.{Running}
use Rattle.serial.proofs.Told.{Split, split, forgets, Told, within, given_told, KeepsTold, finished_in as finishedT}
use Rattle.serial.proofs.Standing.{StandsTold, stands_told}
use Rattle.rules.specs.World.{World, status_at}
use Rattle.rules.specs.Names.{read_joined, joins, found}
use Rattle.rules.specs.Book.{Book, Fed, on_record, named}
use Rattle.rules.specs.Lending.{LentCall, world_lent, proper}
use Rattle.rules.specs.Demand3.{Entry, turned_away, answered, in_slot, run_from, finished_in, given, book_of}
use Rattle.rules.specs.Running.{Stands, Statement}
use Rattle.rules.specs.Laws.Named.{fits}
use Rattle.rules.proofs.Laws.Named.{Names, fits_names}
use Rattle.rules.specs.Laws.Decided.{qps_of, cqs_of, eqs_of}
use Rattle.rules.proofs.Proofs.System.{Place, gate, at, one, gate_bytes, Writes, records_in, qp_count, cq_count, eq_count, system}
use Rattle.rules.proofs.Proofs.System.{Fits as FitsRequest}
use Rattle.rules.proofs.Proofs.Shown.{shows, plain, accepted_fits, names_found}
use Rattle.rules.proofs.Proofs.View.{look_at, slot_view, slot_at, view_of, look_valid}
use Rattle.rules.proofs.Proofs.Serial.{item, items, fins_same, given_same, start_open, book_shows, list_keeps}

-- ---- a place in one journal is one in the other

items_forgets : (J : List Entry) → items J ≡ forgets item J
items_forgets [] = refl
items_forgets (e ∷ J) = ap (λ (l : List (Told system plain)). item e ∷ l) (items_forgets J)

within_is : (e : Entry) (f : Fed) (k : ℕ) → item e ≡ within f k → e ≡ in_slot f k
within_is (turned_away g n) f k i = let z : ◌≡◌ {A = ℕ} 0 1 = cc in absurd (omega arith)
within_is (answered g a) f k i = let z : ◌≡◌ {A = ℕ} 0 1 = cc in absurd (omega arith)
within_is (in_slot g j) f k i = let a : g ≡ f = cc in let c : j ≡ k = cc in rw (a, c)

-- ---- of a run

module _ (b : Book) (s : Place → List ℕ) (w : World) (J : List Entry) (m : (X : Place) → shows b X ≡ s X)
    (i : KeepsTold system plain s (view_of w) (items J)) (k moved : ℕ) (n : QpNumber) (c : CqNumber) (e : EqNumber)
    (status : status_at k w.row ≡ Running moved (joins n c e)) where
  front : List ℕ
  front = front_of k (joins n c e) w.room

  told : StandsTold system plain b (view_of w) (items J) k (one (joins n c e) front)
  unfolding front
  told = stands_told system plain b s (view_of w) (items J) m i k (one (joins n c e) front) _ (ap (slot_view k w.room) status)

  -- an engine request has no mailbox bytes
  no_front : front ≡ []
  unfolding front front_of part
  no_front = refl

  -- ---- the store

  here : Book
  here = record { opened = w.hca.«open»; counts = w.hca.logs; bytes = records_in (look_at w) }

  here_shows : (X : Place) → shows here X ≡ look_at w X
  unfolding here
  here_shows gate = refl
  here_shows (at X) = refl

  nowhere : (X : Place) → Writes (one (joins n c e) front) X → ⊥
  nowhere gate y = y
  nowhere (at X) y = y.0

  fit : (w.hca.«open» ≡ true) × (FitsRequest (joins n c e) (look_at w) ≡ true)
  unfolding here
  fit = accepted_fits here (look_at w) here_shows (joins n c e) front (told.now (λ X y. y) nowhere)

  stands : Names (qps_of w) (cqs_of w) (eqs_of w) n c e (records_in (look_at w))
  stands =
      fits_names (qps_of w) (cqs_of w) (eqs_of w) n c e (records_in (look_at w))
      (sym (ap (λ (o : Bool). let g : List ℕ = gate_bytes o w.hca.logs in
      fits (qp_count g) (cq_count g) (eq_count g) (joins n c e) (records_in (look_at w))) fit.0) ∙ fit.1)

  qp_valid : is_record w.hca.logs (rec.Qp n) ≡ true
  unfolding is_record
  qp_valid = stands.in_qps

  cq_valid : is_record w.hca.logs (rec.Cq c) ≡ true
  unfolding is_record
  cq_valid = stands.in_cqs

  -- ---- the journal

  place : Split item J told.before (within (on_record (read_joined n) front) k)
  place = split item J told.before _ told.after (sym (items_forgets J) ∙ told.place)

  same_book : given b (finished_in w place.front) ≡ given_told system plain b (finishedT system plain (slot_at w) told.before)
  same_book =
      sym (given_same b (finished_in w place.front))
      ∙ ap (given_told system plain b)
      (fins_same w place.front ∙ ap (finishedT system plain (slot_at w)) (items_forgets place.front ∙ place.fronts))

  pub running_stands : Stands b w J k n c e
  running_stands = record {
    cq = ap cq_named (sym (look_valid w (rec.Qp n) qp_valid)) ∙ stands.cq_named_lem;
    eq = ap eq_named (sym (look_valid w (rec.Cq c) cq_valid)) ∙ stands.eq_named_lem;
    before = place.front;
    after = place.back;
    place = place.is
        ∙ ap (λ (x : Entry). place.front ++ x ∷ place.back)
        (within_is place.here (on_record (read_joined n) front) k place.this
        ∙ ap (λ (f : List ℕ). in_slot (on_record (read_joined n) f) k) no_front);
    book = ap (named (read_joined n)) same_book
        ∙ names_found (given_told system plain b (finishedT system plain (slot_at w) told.before)) told.store told.shown
        (joins n c e) front told.took;
  }

-- WHAT THE HOLDS ARE FOR
pub running : Statement
running before first i calls k m n c e r =
    let start : World = world_lent before first in
    running_stands (book_of (proper start)) (look_at (proper start)) (proper (run_from start [] calls).world)
    (run_from start [] calls).journal
    (book_shows (proper start) (start_open before first i)) (list_keeps before first i calls) k m n c e r
