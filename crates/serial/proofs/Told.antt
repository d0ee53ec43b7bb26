-- The journal in the plain book's own terms: what a call was asked (`Ask`) and answered, and nothing that only a slot knows. The
-- slots' journal (Slots) forgets to this one; that there is one which does is what a run keeps.
use Rattle.std.specs.Prelude.{◌≡◌, refl, List, [], ◌∷◌, ◌++◌, ℕ}
use Rattle.std.proofs.Common.{sym, ◌∙◌, ap, ap₂, subst, arith}
use Rattle.std.proofs.Math.Decide.{ℕ_discrete}
use Rattle.serial.specs.Core.{Sys, Store, Journal, refused, done, running, Quiet, Inv}
use Rattle.serial.specs.Order.{Done, finished}
use Rattle.serial.specs.Slots.{Slot, free, runs, ended, View, Note, nothing, turned, taken, at_once, collected, Item}
use Rattle.serial.specs.Slots.{off, gone, inside, settle_one, settle, log, entry, stand, stands, Event, Keeps}
use Rattle.serial.proofs.Items.{stands_append}
use Rattle.serial.proofs.Next.{next, begin}
use Rattle.serial.specs.Plain.{Plain, given, Demand}
use Rattle.serial.proofs.Plain.{demand}

-- ---- a split of what is left of a list is one of the list

abbrev pub forgets : {A B : Type 0} → (A → B) → List A → List B
forgets f [] = []
forgets f (x ∷ l) = f x ∷ forgets f l

pub record Split {A B : Type 0} (f : A → B) (l : List A) (P : List B) (y : B) : Type 0 where
  pub front : List A
  pub here : A
  pub back : List A
  pub is : l ≡ front ++ here ∷ back
  pub fronts : forgets f front ≡ P
  pub this : f here ≡ y

pub forgets_append : {A B : Type 0} (f : A → B) (l m : List A) → forgets f (l ++ m) ≡ forgets f l ++ forgets f m
forgets_append f [] m = refl
forgets_append f (x ∷ l) m = ap (λ k. f x ∷ k) (forgets_append f l m)

pub split : {A B : Type 0} (f : A → B) (l : List A) (P : List B) (y : B) (Q : List B) → forgets f l ≡ P ++ y ∷ Q → Split f l P y
split f [] [] y Q e = let z : ◌≡◌ {A = ℕ} 0 1 = cc in absurd (omega arith)
split f [] (p ∷ P) y Q e = let z : ◌≡◌ {A = ℕ} 0 1 = cc in absurd (omega arith)
split f (x ∷ l) [] y Q e = record { front = []; here = x; back = l; is = refl; fronts = refl; this = cc }
split f (x ∷ l) (p ∷ P) y Q e =
    let a : f x ≡ p = cc in
    let b : forgets f l ≡ P ++ y ∷ Q = cc in
    let s : Split f l P y = split f l P y Q b in
    record {
      front = x ∷ s.front;
      here = s.here;
      back = s.back;
      is = ap (λ k. x ∷ k) s.is;
      fronts = ap₂ (λ u k. u ∷ k) a s.fronts;
      this = s.this;
    }

module _ (S : Sys) (P : Plain S) where
  open S use {Rec, Req, Ans, Num, accepted, Writes}
  open P use {Book, Ask, asks, number, reply, after, shows, Given}

  pub data Told : Type 0 where
    away : Ask → Num → Told
    answered : Ask → Ans → Told
    within : Ask → ℕ → Told

  pub data Heard : Type 0 where
    silence : Heard
    sent : Ask → Num → Heard
    into : Ask → ℕ → Heard
    straight : Ask → Ans → Heard
    out : ℕ → Ans → Heard

  abbrev pub hear : Note S → Heard
  hear nothing = silence
  hear (turned r n) = sent (asks r) n
  hear (taken r k) = into (asks r) k
  hear (at_once r a) = straight (asks r) a
  hear (collected k a) = out k a

  abbrev pub tell : Item S → Told
  tell (off r n) = away (asks r) n
  tell (gone r a) = answered (asks r) a
  tell (inside r k) = within (asks r) k

  abbrev pub settled_one : {j k : ℕ} → Dec (j ≡ k) → Ans → Ask → Told
  settled_one {j} (yes e) a r = answered r a
  settled_one {j} (no e) a r = within r j

  abbrev pub settled : ℕ → Ans → List Told → List Told
  settled k a [] = []
  settled k a (away r n ∷ J) = away r n ∷ settled k a J
  settled k a (answered r b ∷ J) = answered r b ∷ settled k a J
  settled k a (within r j ∷ J) = settled_one (ℕ_discrete j k) a r ∷ settled k a J

  abbrev pub heard : Heard → List Told → List Told
  heard silence J = J
  heard (sent r n) J = J ++ away r n ∷ []
  heard (into r k) J = J ++ within r k ∷ []
  heard (straight r a) J = J ++ answered r a ∷ []
  heard (out k a) J = settled k a J

  one_told : {j k : ℕ} (d : Dec (j ≡ k)) (a : Ans) (r : Req) → tell (settle_one S d a r) ≡ settled_one d a (asks r)
  one_told (yes e) a r = refl
  one_told (no e) a r = refl

  settle_told : (k : ℕ) (a : Ans) (I : List (Item S)) → forgets tell (settle S k a I) ≡ settled k a (forgets tell I)
  settle_told k a [] = refl
  settle_told k a (off r n ∷ I) = ap (λ l. away (asks r) n ∷ l) (settle_told k a I)
  settle_told k a (gone r b ∷ I) = ap (λ l. answered (asks r) b ∷ l) (settle_told k a I)
  settle_told k a (inside r j ∷ I) = ap₂ (λ x l. x ∷ l) (one_told (ℕ_discrete j k) a r) (settle_told k a I)

  log_told : (n : Note S) (I : List (Item S)) → forgets tell (log S n I) ≡ heard (hear n) (forgets tell I)
  log_told nothing I = refl
  log_told (turned r n) I = forgets_append tell I (off r n ∷ [])
  log_told (taken r k) I = forgets_append tell I (inside r k ∷ [])
  log_told (at_once r a) I = forgets_append tell I (gone r a ∷ [])
  log_told (collected k a) I = settle_told k a I

  -- ---- what a run keeps

  pub record KeepsTold (s : Store S) (v : View S) (T : List Told) : Type 0 where
    pub items : List (Item S)
    pub told : forgets tell items ≡ T
    pub keeps : Keeps S s v items

  pub begin_told : (v : View S) → ((j : ℕ) → v.slot j ≡ free) → KeepsTold v.look v []
  begin_told v h = record { items = []; told = refl; keeps = begin S v h }

  pub next_told : (s : Store S) (v u : View S) (T : List Told) {n : Note S} {f : List (Done S)} (h : Heard) → KeepsTold s v T
      → Event S v u n f → hear n ≡ h
      → KeepsTold s u (heard h T)
  next_told s v u T {n} h k e q = record {
    items = log S n k.items;
    told = log_told n k.items ∙ ap₂ heard q k.told;
    keeps = next S s v u k.items k.keeps e;
  }

  -- ---- the claim

  pub record Fed : Type 0 where
    pub what : Ask
    pub gave : Ans

  abbrev pub fed : Done S → Fed
  fed d = record { what = asks d.what; gave = d.gave }

  abbrev pub slot_fed : Ask → Slot S → List Fed → List Fed
  slot_fed f free l = l
  slot_fed f (runs r p) l = l
  slot_fed f (ended r a) l = record { what = f; gave = a } ∷ l

  abbrev pub finished_in : (ℕ → Slot S) → List Told → List Fed
  finished_in v [] = []
  finished_in v (away f n ∷ T) = finished_in v T
  finished_in v (answered f a ∷ T) = record { what = f; gave = a } ∷ finished_in v T
  finished_in v (within f k ∷ T) = slot_fed f (v k) (finished_in v T)

  abbrev pub given_told : Book → List Fed → Book
  given_told b [] = b
  given_told b (d ∷ L) = given_told (after d.what b) L

  pub given_told_lem : (b : Book) (L : List (Done S)) → given_told b (forgets fed L) ≡ given S P b L
  given_told_lem b [] = refl
  given_told_lem b (d ∷ L) = given_told_lem (after (asks d.what) b) L

  pub finished_told : (v : ℕ → Slot S) (I : List (Item S)) → finished_in v (forgets tell I) ≡ forgets fed (finished S (stands S v I))
  finished_told v [] = refl
  finished_told v (off r n ∷ I) = finished_told v I
  finished_told v (gone r a ∷ I) = ap (λ l. record { what = asks r; gave = a } ∷ l) (finished_told v I)
  finished_told v (inside r k ∷ I) = go (v k) (finished_told v I)
    where
      go : (x : Slot S) → finished_in v (forgets tell I) ≡ forgets fed (finished S (stands S v I))
          → slot_fed (asks r) x (finished_in v (forgets tell I)) ≡ forgets fed (finished S (entry S r x ∷ stands S v I))
      go free e = e
      go (runs q p) e = e
      go (ended q a) e = ap (λ l. record { what = asks r; gave = a } ∷ l) e

  module _ (Writing : Ask → Rec → Type 0) (writing : (r : Req) (X : Rec) → Writes r X → Writing (asks r) X) where
    abbrev pub NotWriting : Ask → Rec → Slot S → Type 0
    NotWriting f X free = ¬ Writing f X
    NotWriting f X (runs r p) = ¬ Writing f X
    NotWriting f X (ended r a) = Unit {0}

    abbrev pub Unwritten : (ℕ → Slot S) → Rec → List Told → Type 0
    Unwritten v X [] = Unit {0}
    Unwritten v X (away f n ∷ T) = Unwritten v X T
    Unwritten v X (answered f a ∷ T) = Unwritten v X T
    Unwritten v X (within f k ∷ T) = NotWriting f X (v k) × Unwritten v X T

    quiet_told : (v : ℕ → Slot S) (X : Rec) (I : List (Item S)) → Unwritten v X (forgets tell I) → Quiet S X (stands S v I)
    quiet_told v X [] u = tt
    quiet_told v X (off r n ∷ I) u = quiet_told v X I u
    quiet_told v X (gone r a ∷ I) u = quiet_told v X I u
    quiet_told v X (inside r k ∷ I) u = go (v k) u.0 (quiet_told v X I u.1)
      where
        go : (x : Slot S) → NotWriting (asks r) X x → Quiet S X (stands S v I) → Quiet S X (entry S r x ∷ stands S v I)
        go free h q = ((λ y. h (writing r X y)), q)
        go (runs o p) h q = ((λ y. h (writing r X y)), q)
        go (ended o a) h q = q

    pub record DemandTold (b : Book) (w : Store S) (v : ℕ → Slot S) (T : List Told) : Type 0 where
      pub accepts : (A B : List Fed) (d : Fed) → finished_in v T ≡ A ++ d ∷ B → number d.what (given_told b A) ≡ accepted
      pub records : (X : Rec) → Unwritten v X T → w X ≡ shows (given_told b (finished_in v T)) X
      pub answers : (A B : List Fed) (d : Fed) → finished_in v T ≡ A ++ d ∷ B → reply d.what (given_told b A) ≡ d.gave
      pub refusals : (A B : List Told) (f : Ask) (n : Num) → T ≡ A ++ away f n ∷ B → Given n → number f (given_told b (finished_in v A)) ≡ n

    off_is : (x : Item S) (f : Ask) (n : Num) → tell x ≡ away f n → (G : Req → Type 0) → ((r : Req) → x ≡ off r n → asks r ≡ f → G r)
        → (Q : Type 0) → ((r : Req) → G r → Q) → Q
    off_is (off r m) f n e G g Q k = let a : asks r ≡ f = cc in let c : m ≡ n = cc in k r (g r (ap (off r) c) a)
    off_is (gone r a) f n e G g Q k = let z : ◌≡◌ {A = ℕ} 0 1 = cc in absurd (omega arith)
    off_is (inside r j) f n e G g Q k = let z : ◌≡◌ {A = ℕ} 0 1 = cc in absurd (omega arith)

    pub demand_told : (b : Book) (s : Store S) (v : View S) (T : List Told) → ((X : Rec) → shows b X ≡ s X) → KeepsTold s v T
        → DemandTold b v.look v.slot T
    demand_told b s v T m k = record {
      accepts = λ A B d e.
          let x : Split fed fins A d = split fed fins A d B (sym same ∙ e) in
          ap₂ number (sym (ap (λ (y : Fed). y.what) x.this)) (sym (ap (given_told b) x.fronts) ∙ given_told_lem b x.front)
          ∙ d3.accepts x.front x.back x.here x.is;
      records = λ X u.
          d3.records X (quiet_told v.slot X k.items (subst (λ l. Unwritten v.slot X l) (sym k.told) u))
          ∙ ap (λ c. shows c X) (sym (ap (given_told b) same ∙ given_told_lem b fins));
      answers = λ A B d e.
          let x : Split fed fins A d = split fed fins A d B (sym same ∙ e) in
          ap₂ reply (sym (ap (λ (y : Fed). y.what) x.this)) (sym (ap (given_told b) x.fronts) ∙ given_told_lem b x.front)
          ∙ d3.answers x.front x.back x.here x.is ∙ ap (λ (y : Fed). y.gave) x.this;
      refusals = λ A B f n e g.
          let x : Split tell k.items A (away f n) = split tell k.items A (away f n) B (k.told ∙ e) in
          off_is x.here f n x.this (λ r. number f (given_told b (finished_in v.slot A)) ≡ n)
          (λ r h a.
          ap₂ number (sym a)
          (ap (λ l. given_told b (finished_in v.slot l)) (sym x.fronts) ∙ ap (given_told b) (finished_told v.slot x.front)
          ∙ given_told_lem b (finished S (stands S v.slot x.front)))
          ∙ d3.refusals (stands S v.slot x.front) (stands S v.slot x.back) r n
          (ap (stands S v.slot) (x.is ∙ ap (λ y. x.front ++ y ∷ x.back) h)
          ∙ stands_append S v.slot x.front (off r n ∷ x.back)) g)
          (number f (given_told b (finished_in v.slot A)) ≡ n) (λ r y. y);
    }
      where
        fins : List (Done S)
        fins = finished S (stands S v.slot k.items)

        same : finished_in v.slot T ≡ forgets fed fins
        same = ap (finished_in v.slot) (sym k.told) ∙ finished_told v.slot k.items

        d3 : Demand S P b v.look (stands S v.slot k.items)
        d3 = demand S P b s v.look (stands S v.slot k.items) m k.keeps.inv
