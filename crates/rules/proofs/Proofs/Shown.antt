-- The plain book is a plain book of the system: the same numbers, answers and effects over the same records.
use Rattle.std.specs.Prelude.{◌≡◌, refl, Bool, true, false, List, [], ◌∷◌, ◌++◌, ℕ, T}
use Rattle.std.proofs.Common.{sym, ◌∙◌, ap, ap₂, subst, arith}
use Rattle.std.proofs.lemmas.Bool.{false≢true}
use Rattle.words.specs.Choice.{pick}
use Rattle.context.specs.Layout.{same_record}
use Rattle.context.proofs.Records.{same_record_lem, record_same}
use Rattle.context.specs.declared.Logs.{Logs}
use Rattle.context.specs.declared.QpNumber.{QpNumber}
use Rattle.context.specs.declared.Record.{Record}
use Rattle.requests.specs.declared.Request.{Request}
use Rattle.request_table.specs.Records.{record_of, records_of, writes_of}
use Rattle.checks.specs.Permission.{permission_of}
use Rattle.checks.specs.Verdicts.{denial_number, verdict_number}
use Rattle.checks.specs.declared.Denial.TheVariants as denial
use Rattle.answers.specs.Answers.{answer_of}
use Rattle.serial.specs.Plain.{Plain}
use Rattle.rules.specs.Whole.{whole_effect}
use Rattle.rules.specs.Book.{Book, Fed, on_record, close_hca as closing, nop as resting, with_record}
use Rattle.rules.specs.Book.{gated, named, named_number, book_number, named_reply, book_reply, after_record, named_effect, effect_of}
use Rattle.rules.specs.Book.{by_number, book_after}
use Rattle.rules.specs.Names.{Arguments, arguments_of, read_joined, Named, found, lost, joined}
use Rattle.rules.specs.Laws.Named.{fits, Lost, misses}
use Rattle.rules.proofs.Laws.Named.{fits_found, fits_local, misses_lost, misses_local}
use Rattle.rules.proofs.Proofs.System.{Place, gate, at, Req, one, missing, close_hca, nop, Num, number, stale, choose_yes}
use Rattle.rules.proofs.Proofs.System.{gate_bytes, gated_by, Writes, writes?, records_in, qp_count, cq_count, eq_count, Fits}
use Rattle.rules.proofs.Proofs.System.{Misses, num, ans, eff, eff_frame, system}

-- what the book is fed of what a slot holds
abbrev pub asks : Req → Fed
asks (one q mail) = on_record (arguments_of q) mail
asks (missing n t) = on_record (read_joined n) []
asks close_hca = closing
asks nop = resting

abbrev pub shows : Book → Place → List ℕ
shows b gate = gate_bytes b.opened b.counts
shows b (at X) = b.bytes X

-- a verdict that a call may give
abbrev pub IsNumber : Num → Type 0
IsNumber (number n) = Unit {0}
IsNumber stale = ⊥

-- the joined bytes of records that are the same
pub joined_same : (Xs : List Record) (s t : Record → List ℕ) → ((X : Record) → s X ≡ t X) → joined Xs s ≡ joined Xs t
joined_same [] s t h = refl
joined_same (X ∷ Xs) s t h = ap₂ (λ (x y : List ℕ). x ++ y) (h X) (joined_same Xs s t h)

same_gate : (o : Bool) (c : Logs) (g : List ℕ) (n : ℕ) (m : Num) → gate_bytes o c ≡ g → (o ≡ true → number n ≡ m)
    → number (gated o n) ≡ gated_by g m
unfolding gated
same_gate true c g n m e f = f refl ∙ ap (λ x. gated_by x m) e
same_gate false c g n m e f = ap (λ x. gated_by x m) e

-- The names that a request holds, or that it missed, against those that the book finds: F is the system's test of them, and n the number
-- where it holds.
module _ (b : Book) (s : Place → List ℕ) (m : (X : Place) → shows b X ≡ s X) where
  gate_is : (o : Bool) → b.opened ≡ o → s gate ≡ gate_bytes o b.counts
  gate_is o e = sym (m gate) ∙ ap (λ (x : Bool). gate_bytes x b.counts) e

  module _ (a : Arguments) (mail : List ℕ) (n : ℕ) (F : Bool) where
    abbrev verdict : Bool → Num
    verdict f = gated_by (s gate) (pick f (number n) stale)

    -- a verdict that is a number: closed, or the test holds
    given_number : (b.opened ≡ true → F ≡ true → named_number b (named a b) ≡ n) → IsNumber (verdict F)
        → number (book_number (on_record a mail) b) ≡ verdict F
    given_number h g = go b.opened refl F refl g
      where
        go : (o : Bool) → b.opened ≡ o → (f : Bool) → F ≡ f → IsNumber (verdict f) → number (book_number (on_record a mail) b) ≡ verdict f
        go true e true k y = same_gate b.opened b.counts (s gate) _ _ (m gate) (λ o. ap number (h o k))
        go true e false k y = absurd (subst (λ (x : List ℕ). IsNumber (gated_by x stale)) (gate_is true e) y)
        go false e f k y = same_gate b.opened b.counts (s gate) _ _ (m gate) (λ o. absurd (false≢true (sym e ∙ o)))

    -- one that is accepted: open, and the test holds
    accepts : verdict F ≡ number 0 → (b.opened ≡ true) × (F ≡ true)
    accepts g = go b.opened refl F refl g
      where
        go : (o : Bool) → b.opened ≡ o → (f : Bool) → F ≡ f → verdict f ≡ number 0 → (b.opened ≡ true) × (F ≡ true)
        go true e true k y = (e, k)
        go true e false k y =
            let z : stale ≡ number 0 = sym (ap (λ (x : List ℕ). gated_by x stale) (gate_is true e)) ∙ y in
            absurd (subst IsNumber (sym z) tt)
        go false e f k y =
            let z : number 4 ≡ number 0 = sym (ap (λ (x : List ℕ). gated_by x (pick f (number n) stale)) (gate_is false e)) ∙ y in
            let w : ◌≡◌ {A = ℕ} 4 0 = cc in absurd (omega arith)

  -- open, with names that fit the records: the book finds the request
  pub fits_named : (q : Request) → b.opened ≡ true → Fits q s ≡ true → named (arguments_of q) b ≡ found q
  fits_named q o f =
      fits_found b.counts b.bytes q
      (fits_local _ _ _ q b.bytes (records_in s) (λ X _. m (at X))
      ∙ sym (ap (λ (g : List ℕ). fits (qp_count g) (cq_count g) (eq_count g) q (records_in s)) (gate_is true o)) ∙ f)

  misses_named : (n : QpNumber) (t : Lost) → b.opened ≡ true → Misses n t s ≡ true → named (read_joined n) b ≡ lost
  misses_named n t o f =
      misses_lost b.counts b.bytes n t
      (misses_local _ _ n t b.bytes (records_in s) (λ X _. m (at X))
      ∙ sym (ap (λ (g : List ℕ). misses (cq_count g) (eq_count g) n t (records_in s)) (gate_is true o)) ∙ f)

  pub accepted_fits : (q : Request) (mail : List ℕ) → num (one q mail) s ≡ number 0 → (b.opened ≡ true) × (Fits q s ≡ true)
  accepted_fits q mail e = accepts (arguments_of q) mail _ (Fits q s) e

  -- THE FACT about names: where the system's book accepts what a slot holds, the plain book finds the same request
  pub names_found : (q : Request) (mail : List ℕ) → num (one q mail) s ≡ number 0 → named (arguments_of q) b ≡ found q
  names_found q mail e =
      let y : (b.opened ≡ true) × (Fits q s ≡ true) = accepted_fits q mail e in fits_named q y.0 y.1

  not_missed : (n : QpNumber) (t : Lost) → num (missing n t) s ≡ number 0 → ⊥
  not_missed n t e =
      let y : (b.opened ≡ true) × (Misses n t s ≡ true) = accepts (read_joined n) [] _ (Misses n t s) e in
      let z : gated_by (s gate) (number (denial_number denial.Name)) ≡ number 0 =
      sym (ap (λ (f : Bool). gated_by (s gate) (pick f (number (denial_number denial.Name)) stale)) y.1) ∙ e in
      let v : number 3 ≡ number 0 = sym (ap (λ (x : List ℕ). gated_by x (number 3)) (gate_is true y.0)) ∙ z in
      let w : ◌≡◌ {A = ℕ} 3 0 = cc in omega arith

pub numbers : (r : Req) (b : Book) (s : Place → List ℕ) → ((X : Place) → shows b X ≡ s X) → IsNumber (num r s)
    → number (book_number (asks r) b) ≡ num r s
numbers (one q mail) b s m g =
    given_number b s m (arguments_of q) mail _ (Fits q s)
    (λ o f. ap (named_number b) (fits_named b s m q o f) ∙ ap (λ c. verdict_number (permission_of q c)) (m (at (record_of q)))) g
numbers (missing n t) b s m g =
    given_number b s m (read_joined n) [] _ (Misses n t s) (λ o f. ap (named_number b) (misses_named b s m n t o f)) g
numbers close_hca b s m g = same_gate b.opened b.counts (s gate) 0 (number 0) (m gate) (λ _. refl)
numbers nop b s m g = refl

pub replies : (r : Req) (b : Book) (s : Place → List ℕ) → ((X : Place) → shows b X ≡ s X) → num r s ≡ number 0
    → book_reply (asks r) b ≡ ans r s
replies (one q mail) b s m e =
    ap (named_reply b) (names_found b s m q mail e)
    ∙ ap (answer_of q) (joined_same (records_of q) b.bytes (records_in s) (λ X. m (at X)))
replies (missing n t) b s m e = absurd (not_missed b s m n t e)
replies close_hca b s m e = refl
replies nop b s m e = refl

-- the book after a write
abbrev changed : Request → List ℕ → Book → Book
changed q mail b = with_record b (record_of q) (whole_effect q mail (b.bytes (record_of q)))

written : (q : Request) (mail : List ℕ) (b : Book) (s : Place → List ℕ) → ((X : Place) → shows b X ≡ s X) → (X : Place)
    → shows (after_record q mail b) X ≡ eff (one q mail) s X
unfolding after_record with_record
written q mail b s m gate = go (writes_of q)
  where
    go : (o : Bool) → shows (pick o (changed q mail b) b) gate ≡ s gate
    go true = m gate
    go false = m gate
written q mail b s m (at X) = go (writes_of q) refl (same_record (record_of q) X) refl
  where
    stays : ¬ Writes (one q mail) (at X) → b.bytes X ≡ eff (one q mail) s (at X)
    stays n = m (at X) ∙ sym (eff_frame (one q mail) s (at X) n)

    go : (o : Bool) → writes_of q ≡ o → (d : Bool) → same_record (record_of q) X ≡ d
        → (pick o (changed q mail b) b).bytes X ≡ eff (one q mail) s (at X)
    go true e true d =
        let y : X ≡ record_of q = sym (same_record_lem (record_of q) X d) in
        ap (λ t. pick t (whole_effect q mail (b.bytes (record_of q))) (b.bytes X)) d
        ∙ ap (whole_effect q mail) (ap b.bytes (sym y) ∙ m (at X))
        ∙ sym (choose_yes (writes? (one q mail) (at X)) (whole_effect q mail (s (at X))) (s (at X)) (subst T (sym e) tt, y))
    go true e false d =
        ap (λ t. pick t (whole_effect q mail (b.bytes (record_of q))) (b.bytes X)) d
        ∙ stays (λ z. false≢true (sym d ∙ record_same (record_of q) X (sym z.1)))
    go false e d f = stays (λ z. subst T e z.0)

effects : (r : Req) (b : Book) (s : Place → List ℕ) → ((X : Place) → shows b X ≡ s X) → num r s ≡ number 0 → (X : Place)
    → shows (effect_of (asks r) b) X ≡ eff r s X
effects (one q mail) b s m e X =
    ap (λ (f : Named). shows (named_effect mail b f) X) (names_found b s m q mail e) ∙ written q mail b s m X
effects (missing n t) b s m e X = absurd (not_missed b s m n t e)
effects close_hca b s m e gate = refl
effects close_hca b s m e (at X) = m (at X)
effects nop b s m e gate = m gate
effects nop b s m e (at X) = m (at X)

-- an accepted request has its effect
plainly : (m n : ℕ) → number m ≡ number n → m ≡ n
plainly m n e = cc

kept : (n : ℕ) (b c : Book) → n ≡ 0 → by_number n b c ≡ c
kept n b c e = rw e

pub taken : (r : Req) (b : Book) (s : Place → List ℕ) → ((X : Place) → shows b X ≡ s X) → num r s ≡ number 0
    → (X : Place) → shows (book_after (asks r) b) X ≡ eff r s X
unfolding book_after
taken r b s m e X =
    ap (λ c. shows c X)
    (kept (book_number (asks r) b) b (effect_of (asks r) b) (plainly _ _ (numbers r b s m (subst IsNumber (sym e) tt) ∙ e)))
    ∙ effects r b s m e X

abbrev pub plain : Plain system
plain = record {
  Book = Book;
  Ask = Fed;
  asks = asks;
  number = λ f b. number (book_number f b);
  reply = book_reply;
  after = book_after;
  shows = shows;
  Given = IsNumber;
  takes = λ r b s m e. (numbers r b s m (subst IsNumber (sym e) tt) ∙ e, replies r b s m e, taken r b s m e);
  turns = numbers;
}
