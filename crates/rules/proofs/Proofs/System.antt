-- The plain book as a system of `serial`: what each request sees, holds and writes, its verdict, answer and effect, and what it is
-- to be under way.
use Rattle.std.specs.Prelude.{◌≡◌, refl, Bool, true, false, List, [], ◌∷◌, ◌++◌, ℕ, T, get_or}
use Rattle.std.proofs.Common.{sym, ◌∙◌, ap, ap₂, subst, subst₂, inl, inr}
use Rattle.words.specs.Choice.{pick}
use Rattle.context.specs.Layout.{count_of}
use Rattle.context.proofs.Records.{record?}
use Rattle.context.specs.declared.Kind.TheVariants as kind
use Rattle.context.specs.declared.Logs.{Logs}
use Rattle.context.specs.declared.QpNumber.{QpNumber}
use Rattle.context.specs.declared.Record.{Record}
use Rattle.requests.specs.declared.Request.{Request}
use Rattle.request_table.specs.Records.{record_of, records_of, writes_of}
use Rattle.request_table.specs.Listed.{In}
use Rattle.request_table.proofs.Laws.{own_in}
use Rattle.checks.specs.Permission.{permission_of}
use Rattle.checks.specs.Verdicts.{denial_number, verdict_number}
use Rattle.checks.specs.declared.Denial.TheVariants as denial
use Rattle.answers.specs.Answers.{answer_of}
use Rattle.byte_rule.specs.Bytes.{byte_of}
use Rattle.bursts.specs.Bursts.{after}
use Rattle.bursts.specs.Copies.{copies}
use Rattle.serial.specs.Core.{Sys}
use Rattle.rules.specs.Whole.{whole_effect}
use Rattle.rules.specs.Names.{joined}
use Rattle.rules.specs.Laws.Named.{fits, Lost, trail_of, misses}
use Rattle.rules.proofs.Laws.Named.{fits_local, misses_local}

-- a place of the book: whether it is open, with its counts, and each record
pub data Place : Type 0 where
  gate : Place
  at : Record → Place

-- What a slot holds, with its mailbox bytes; a joined read that came to a name out of range, with the records that it came to; or a command
-- that is done at once. What the book is fed (`Fed`) is a function of it (`asks` in Shown): a joined read has names in its slot that it was
-- not asked with.
pub data Req : Type 0 where
  one : Request → List ℕ → Req
  missing : QpNumber → Lost → Req
  close_hca : Req
  nop : Req

-- The verdict: a number, of which 0 is none; or that the names that the slot holds are not those in these records, which no call gives.
pub data Num : Type 0 where
  number : ℕ → Num
  stale : Num

abbrev pub choose : {P A : Type 0} → Dec P → A → A → A
choose (yes p) a b = a
choose (no p) a b = b

pub choose_yes : {P A : Type 0} (d : Dec P) (a b : A) → P → choose d a b ≡ a
choose_yes (yes y) a b p = refl
choose_yes (no y) a b p = absurd (y p)

pub choose_no : {P A : Type 0} (d : Dec P) (a b : A) → ¬ P → choose d a b ≡ b
choose_no (yes y) a b p = absurd (p y)
choose_no (no y) a b p = refl

-- open or closed, as contents, with the counts by which a number is judged; a closed book gives 4
abbrev pub gate_bytes : Bool → Logs → List ℕ
gate_bytes true g = count_of g kind.Qp ∷ count_of g kind.Cq ∷ count_of g kind.Eq ∷ []
gate_bytes false g = []

abbrev pub gated_by : List ℕ → Num → Num
gated_by [] n = number 4
gated_by (x ∷ l) n = n

abbrev pub Sees : Req → Place → Type 0
Sees (one q mail) gate = Unit {0}
Sees (one q mail) (at X) = In X (records_of q)
Sees (missing n t) gate = Unit {0}
Sees (missing n t) (at X) = In X (trail_of n t)
Sees close_hca gate = Unit {0}
Sees close_hca (at X) = ⊥
Sees nop gate = ⊥
Sees nop (at X) = ⊥

abbrev pub Writes : Req → Place → Type 0
Writes (one q mail) gate = ⊥
Writes (one q mail) (at X) = T (writes_of q) × (X ≡ record_of q)
Writes (missing n t) X = ⊥
Writes close_hca gate = Unit {0}
Writes close_hca (at X) = ⊥
Writes nop gate = ⊥
Writes nop (at X) = ⊥

-- the record that a request writes is one that it sees
pub own_seen : (q : Request) (X : Record) → X ≡ record_of q → In X (records_of q)
own_seen q X e = subst (λ (Y : Record). In Y (records_of q)) (sym e) (own_in q)

dec_t : (b : Bool) → Dec (T b)
dec_t true = yes tt
dec_t false = no (λ z. z)

two : (q : Request) (X : Record) → Dec (T (writes_of q)) → Dec (X ≡ record_of q) → Dec (T (writes_of q) × (X ≡ record_of q))
two q X (yes a) (yes b) = yes (a, b)
two q X (yes a) (no b) = no (λ z. b z.1)
two q X (no a) b = no (λ z. a z.0)

pub writes? : (f : Req) (X : Place) → Dec (Writes f X)
writes? (one q mail) gate = no (λ z. z)
writes? (one q mail) (at X) = two q X (dec_t (writes_of q)) (record? X (record_of q))
writes? (missing n t) X = no (λ z. z)
writes? close_hca gate = yes tt
writes? close_hca (at X) = no (λ z. z)
writes? nop gate = no (λ z. z)
writes? nop (at X) = no (λ z. z)

-- the records as they are, and the bytes of some, one behind the other
abbrev pub records_in : (Place → List ℕ) → Record → List ℕ
records_in s X = s (at X)

abbrev pub join : List Record → (Place → List ℕ) → List ℕ
join Xs s = joined Xs (records_in s)

-- how many queue pairs, completion queues and event queues there are
abbrev pub qp_count : List ℕ → ℕ
qp_count g = get_or g 0 0

abbrev pub cq_count : List ℕ → ℕ
cq_count g = get_or g 1 0

abbrev pub eq_count : List ℕ → ℕ
eq_count g = get_or g 2 0

-- the names that a request holds are those in the records; a joined read comes to a name out of range there
abbrev pub Fits : Request → (Place → List ℕ) → Bool
Fits q s = fits (qp_count (s gate)) (cq_count (s gate)) (eq_count (s gate)) q (records_in s)

abbrev pub Misses : QpNumber → Lost → (Place → List ℕ) → Bool
Misses n t s = misses (cq_count (s gate)) (eq_count (s gate)) n t (records_in s)

abbrev pub num : Req → (Place → List ℕ) → Num
num (one q mail) s = gated_by (s gate) (pick (Fits q s) (number (verdict_number (permission_of q (s (at (record_of q)))))) stale)
num (missing n t) s = gated_by (s gate) (pick (Misses n t s) (number (denial_number denial.Name)) stale)
num close_hca s = gated_by (s gate) (number 0)
num nop s = number 0

abbrev pub ans : Req → (Place → List ℕ) → List ℕ
ans (one q mail) s = answer_of q (join (records_of q) s)
ans (missing n t) s = []
ans close_hca s = []
ans nop s = []

abbrev pub eff : Req → (Place → List ℕ) → Place → List ℕ
eff (one q mail) s gate = s gate
eff (one q mail) s (at X) = choose (writes? (one q mail) (at X)) (whole_effect q mail (s (at X))) (s (at X))
eff (missing n t) s X = s X
eff close_hca s gate = []
eff close_hca s (at X) = s (at X)
eff nop s gate = s gate
eff nop s (at X) = s (at X)

-- under way: the bursts still to move, and the slot's part of the room
pub record Left : Type 0 where
  pub bursts : List ℕ
  pub buffer : List ℕ

abbrev pub left : List ℕ → List ℕ → Left
left js buf = record { bursts = js; buffer = buf }

-- Begun in s; it is now w. A writer: the bursts that are left, from the record as it is, make the whole effect on the record as it was.
-- A reader: once the bursts that are left are copied from its records as they are, the buffer gives the answer of the records as they
-- were.
abbrev pub MidOf : Bool → Request → List ℕ → Left → (Place → List ℕ) → (Place → List ℕ) → Type 0
MidOf true q mail p s w = after (byte_of q mail) p.bursts (w (at (record_of q))) ≡ whole_effect q mail (s (at (record_of q)))
MidOf false q mail p s w = answer_of q (copies p.bursts (join (records_of q) w) p.buffer) ≡ answer_of q (join (records_of q) s)

abbrev pub Mid : Req → Left → (Place → List ℕ) → (Place → List ℕ) → Type 0
Mid (one q mail) p s w = MidOf (writes_of q) q mail p s w
Mid (missing n t) p s w = Unit {0}
Mid close_hca p s w = Unit {0}
Mid nop p s w = Unit {0}

pub writes_sees : (f : Req) (X : Place) → Writes f X → Sees f X
writes_sees (one q mail) gate w = tt
writes_sees (one q mail) (at X) w = own_seen q X w.1
writes_sees (missing n t) gate w = tt
writes_sees (missing n t) (at X) w = absurd w
writes_sees close_hca gate w = tt
writes_sees close_hca (at X) w = w
writes_sees nop gate w = w
writes_sees nop (at X) w = w

-- ---- locality

pub join_local : (Xs : List Record) (s t : Place → List ℕ) → ((X : Record) → In X Xs → s (at X) ≡ t (at X)) → join Xs s ≡ join Xs t
join_local [] s t h = refl
join_local (X ∷ Xs) s t h = ap₂ (λ (a b : List ℕ). a ++ b) (h X (inl refl)) (join_local Xs s t (λ Y y. h Y (inr y)))

own_local : (q : Request) (s t : Place → List ℕ) → ((X : Record) → In X (records_of q) → s (at X) ≡ t (at X))
    → s (at (record_of q)) ≡ t (at (record_of q))
own_local q s t h = h (record_of q) (own_seen q (record_of q) refl)

pub num_local : (f : Req) (s t : Place → List ℕ) → ((X : Place) → Sees f X → s X ≡ t X) → num f s ≡ num f t
num_local (one q mail) s t h =
    ap₂ (λ g c. gated_by g
    (pick (fits (qp_count g) (cq_count g) (eq_count g) q (records_in s)) (number (verdict_number (permission_of q c))) stale))
    (h gate tt) (own_local q s t (λ X y. h (at X) y))
    ∙ ap (λ b. gated_by (t gate) (pick b (number (verdict_number (permission_of q (t (at (record_of q)))))) stale))
    (fits_local (qp_count (t gate)) (cq_count (t gate)) (eq_count (t gate)) q (records_in s) (records_in t) (λ X y. h (at X) y))
num_local (missing n x) s t h =
    ap (λ g. gated_by g (pick (misses (cq_count g) (eq_count g) n x (records_in s)) (number (denial_number denial.Name)) stale)) (h gate tt)
    ∙ ap (λ b. gated_by (t gate) (pick b (number (denial_number denial.Name)) stale))
    (misses_local (cq_count (t gate)) (eq_count (t gate)) n x (records_in s) (records_in t) (λ X y. h (at X) y))
num_local close_hca s t h = ap (λ g. gated_by g (number 0)) (h gate tt)
num_local nop s t h = refl

pub ans_local : (f : Req) (s t : Place → List ℕ) → ((X : Place) → Sees f X → s X ≡ t X) → ans f s ≡ ans f t
ans_local (one q mail) s t h = ap (answer_of q) (join_local (records_of q) s t (λ X y. h (at X) y))
ans_local (missing n x) s t h = refl
ans_local close_hca s t h = refl
ans_local nop s t h = refl

pub eff_local : (f : Req) (s t : Place → List ℕ) → ((X : Place) → Sees f X → s X ≡ t X) → (X : Place) → Writes f X → eff f s X ≡ eff f t X
eff_local (one q mail) s t h gate w = absurd w
eff_local (one q mail) s t h (at X) w =
    ap (λ c. choose (writes? (one q mail) (at X)) (whole_effect q mail c) c) (h (at X) (own_seen q X w.1))
eff_local (missing n x) s t h X w = absurd w
eff_local close_hca s t h gate w = refl
eff_local close_hca s t h (at X) w = absurd w
eff_local nop s t h gate w = absurd w
eff_local nop s t h (at X) w = absurd w

pub eff_frame : (f : Req) (s : Place → List ℕ) (X : Place) → ¬ Writes f X → eff f s X ≡ s X
eff_frame (one q mail) s gate n = refl
eff_frame (one q mail) s (at X) n = choose_no (writes? (one q mail) (at X)) (whole_effect q mail (s (at X))) (s (at X)) n
eff_frame (missing m t) s X n = refl
eff_frame close_hca s gate n = absurd (n tt)
eff_frame close_hca s (at X) n = refl
eff_frame nop s gate n = refl
eff_frame nop s (at X) n = refl

mid_of : (b : Bool) (q : Request) (mail : List ℕ) (p : Left) (s t w u : Place → List ℕ)
    → ((X : Record) → In X (records_of q) → s (at X) ≡ t (at X)) → ((X : Record) → In X (records_of q) → w (at X) ≡ u (at X))
    → MidOf b q mail p s w → MidOf b q mail p t u
mid_of true q mail p s t w u h k m =
    subst₂ (λ c d. after (byte_of q mail) p.bursts d ≡ whole_effect q mail c) (own_local q s t h) (own_local q w u k) m
mid_of false q mail p s t w u h k m =
    subst₂ (λ c d. answer_of q (copies p.bursts d p.buffer) ≡ answer_of q c)
    (join_local (records_of q) s t h) (join_local (records_of q) w u k) m

pub mid_local : (f : Req) (p : Left) (s t w u : Place → List ℕ) → ((X : Place) → Sees f X → s X ≡ t X)
    → ((X : Place) → Sees f X → w X ≡ u X) → Mid f p s w → Mid f p t u
mid_local (one q mail) p s t w u h k m = mid_of (writes_of q) q mail p s t w u (λ X y. h (at X) y) (λ X y. k (at X) y) m
mid_local (missing n x) p s t w u h k m = tt
mid_local close_hca p s t w u h k m = tt
mid_local nop p s t w u h k m = tt

abbrev pub system : Sys
system = record {
  Rec = Place;
  Contents = List ℕ;
  Req = Req;
  Ans = List ℕ;
  Num = Num;
  accepted = number 0;
  Prog = Left;
  start = left [] [];
  Sees = Sees;
  Holds = Sees;
  Writes = Writes;
  writes? = writes?;
  writes_holds = writes_sees;
  holds_sees = λ f X y. y;
  num = num;
  ans = ans;
  eff = eff;
  num_local = num_local;
  ans_local = ans_local;
  eff_local = eff_local;
  eff_frame = eff_frame;
  Also = λ p q. Unit {0};
  Mid = Mid;
  mid_local = mid_local;
}
