-- What the holds are for: while a request runs, the records that it holds and does not write are those in which the book accepted it. A
-- joined read (request 2) keeps names in its slot by this.
use Rattle.std.specs.Prelude.{◌≡◌, refl, List, [], ◌∷◌, ◌++◌, ℕ}
use Rattle.std.proofs.Common.{sym, ◌∙◌, ap, subst}
use Rattle.serial.specs.Core.{Sys, Entry, refused, done, running, Store, Journal, play, Quiet, req, Passes, Clear, Good, Inv}
use Rattle.serial.specs.Core.{Plays}
use Rattle.serial.proofs.Core.{good_plays, plays_left}
use Rattle.serial.specs.Order.{finished, play_feed, plays_feeds}
use Rattle.serial.specs.Slots.{Item, inside, runs, View, entry, stands as standing, holder}
use Rattle.serial.proofs.Items.{Located, locate, stands_append}
use Rattle.serial.specs.Plain.{Plain}
use Rattle.serial.proofs.Plain.{given_feed}
use Rattle.serial.proofs.Told.{forgets, forgets_append, Told, within, tell, KeepsTold, finished_in, given_told}
use Rattle.serial.proofs.Told.{finished_told, given_told_lem}

module _ (S : Sys) where
  open S use {Rec, Req, Num, accepted, Prog, Sees, Holds, Writes, holds_sees, num, eff, num_local, eff_frame, Mid}

  clear_quiet : (r : Req) (X : Rec) (B : Journal S) → Holds r X → Clear S r B → Quiet S X B
  clear_quiet r X [] h c = tt
  clear_quiet r X (refused q n ∷ B) h c = clear_quiet r X B h c.1
  clear_quiet r X (done q a ∷ B) h c = clear_quiet r X B h c.1
  clear_quiet r X (running q p ∷ B) h c = ((λ y. c.0.back X y h), clear_quiet r X B h c.1)

  clear_play : (r : Req) (X : Rec) (B : Journal S) (s : Store S) → Holds r X → Clear S r B → play S s B X ≡ s X
  clear_play r X [] s h c = refl
  clear_play r X (refused q n ∷ B) s h c = clear_play r X B s h c.1
  clear_play r X (done q a ∷ B) s h c = clear_play r X B (eff q s) h c.1 ∙ eff_frame q s X (λ y. c.0.back X y h)
  clear_play r X (running q p ∷ B) s h c = clear_play r X B s h c.1

  clear_at : (q : Req) (A : Journal S) (e : Entry S) (B : Journal S) → Clear S q (A ++ e ∷ B) → Passes S q (req S e)
  clear_at q [] e B c = c.0
  clear_at q (x ∷ A) e B c = clear_at q A e B c.1

  -- what the invariant says of a running request at its own place
  pub record Stands (s w : Store S) (A : Journal S) (r : Req) (p : Prog) (B : Journal S) : Type 0 where
    pub took : num r (play S s A) ≡ accepted
    pub mid : Mid r p (play S s A) w
    pub quiet : (X : Rec) → Holds r X → ¬ Writes r X → Quiet S X (A ++ running r p ∷ B)
    pub same : (X : Rec) → Holds r X → play S s (A ++ running r p ∷ B) X ≡ play S s A X

  stands : (w s : Store S) (A : Journal S) (r : Req) (p : Prog) (B : Journal S) → Good S w s (A ++ running r p ∷ B) → Stands s w A r p B
  stands w s [] r p B g = record {
    took = g.0;
    mid = g.1;
    quiet = λ X h n. (n, clear_quiet r X B h g.2);
    same = λ X h. clear_play r X B s h g.2;
  }
  stands w s (refused q n ∷ A) r p B g =
      let t : Stands s w A r p B = stands w s A r p B g.1 in
      record { took = t.took; mid = t.mid; quiet = t.quiet; same = t.same }
  stands w s (done q a ∷ A) r p B g =
      let t : Stands (eff q s) w A r p B = stands w (eff q s) A r p B g.2 in
      record { took = t.took; mid = t.mid; quiet = t.quiet; same = t.same }
  stands w s (running q o ∷ A) r p B g =
      let t : Stands s w A r p B = stands w s A r p B g.3 in
      let c : Passes S q r = clear_at q A (running r p) B g.2 in
      record {
        took = t.took;
        mid = t.mid;
        quiet = λ X h n. ((λ y. c.out X y (holds_sees r X h)), t.quiet X h n);
        same = t.same;
      }

  -- THE CLAIM about running requests
  pub record Held (s w : Store S) (J : Journal S) : Type 0 where
    -- the book, fed the done requests submitted before it, accepts it
    pub took : (A B : Journal S) (r : Req) (p : Prog) → J ≡ A ++ running r p ∷ B → num r (play S s A) ≡ accepted
    -- what it holds and does not write is still as the book had it then
    pub still : (A B : Journal S) (r : Req) (p : Prog) → J ≡ A ++ running r p ∷ B
        → (X : Rec) → Holds r X → ¬ Writes r X → w X ≡ play S s A X
    -- so one that writes nothing, and sees what it holds, would be accepted now
    pub now : (A B : Journal S) (r : Req) (p : Prog) → J ≡ A ++ running r p ∷ B
        → ((X : Rec) → Sees r X → Holds r X) → ((X : Rec) → ¬ Writes r X) → num r w ≡ accepted

  pub held : (s w : Store S) (J : Journal S) → Inv S s w J → Held s w J
  held s w J i = record {
    took = λ A B r p e. (at A B r p e).took;
    still = stays;
    now = λ A B r p e h n. num_local r w (play S s A) (λ X y. stays A B r p e X (h X y) (n X)) ∙ (at A B r p e).took;
  }
    where
      at : (A B : Journal S) (r : Req) (p : Prog) → J ≡ A ++ running r p ∷ B → Stands s w A r p B
      at A B r p e = stands w s A r p B (subst (λ K. Good S w s K) e i.good)

      stays : (A B : Journal S) (r : Req) (p : Prog) → J ≡ A ++ running r p ∷ B → (X : Rec) → Holds r X → ¬ Writes r X
          → w X ≡ play S s A X
      stays A B r p e X h n =
          let t : Stands s w A r p B = at A B r p e in
          i.recs X (subst (λ K. Quiet S X K) (sym e) (t.quiet X h n))
          ∙ subst (λ K. play S s K X ≡ play S s A X) (sym e) (t.same X h)

-- ---- the same in the plain book's terms, of the request in slot k

module _ (S : Sys) (P : Plain S) where
  open S use {Rec, Req, accepted, Prog, Sees, Holds, Writes, num}
  open P use {Book, asks, shows}

  pub record StandsTold (b : Book) (v : View S) (T : List (Told S P)) (k : ℕ) (r : Req) : Type 0 where
    -- its place in the journal
    pub before : List (Told S P)
    pub after : List (Told S P)
    pub place : T ≡ before ++ within (asks r) k ∷ after
    -- the book, given the finished requests accepted before it, has these records, and in them it is accepted
    pub store : Store S
    pub shown : (X : Rec) → shows (given_told S P b (finished_in S P v.slot before)) X ≡ store X
    pub took : num r store ≡ accepted
    -- one that writes nothing, and sees what it holds, would be accepted now
    pub now : ((X : Rec) → Sees r X → Holds r X) → ((X : Rec) → ¬ Writes r X) → num r v.look ≡ accepted

  pub stands_told : (b : Book) (s : Store S) (v : View S) (T : List (Told S P)) → ((X : Rec) → shows b X ≡ s X) → KeepsTold S P s v T
      → (k : ℕ) (r : Req) (p : Prog) → v.slot k ≡ runs r p → StandsTold b v T k r
  stands_told b s v T m t k r p e = record {
    before = forgets (tell S P) l.before;
    after = forgets (tell S P) l.after;
    place = sym t.told ∙ ap (forgets (tell S P)) l.split ∙ forgets_append (tell S P) l.before (inside r k ∷ l.after);
    store = play S s A;
    shown = λ X. ap (λ c. shows c X) (ap (given_told S P b) (finished_told S P v.slot l.before) ∙ given_told_lem S P b (finished S A))
        ∙ given_feed S P b s (finished S A) m (plays_feeds S s A plays) X ∙ sym (ap (λ u. u X) (play_feed S s A));
    took = h.took A B r p split;
    now = h.now A B r p split;
  }
    where
      l : Located S k r t.items
      l = locate S k r t.items (t.keeps.own k ∙ ap (holder S) e)

      A : Journal S
      A = standing S v.slot l.before

      B : Journal S
      B = standing S v.slot l.after

      split : standing S v.slot t.items ≡ A ++ running r p ∷ B
      split =
          ap (standing S v.slot) l.split ∙ stands_append S v.slot l.before (inside r k ∷ l.after)
          ∙ ap (λ x. A ++ entry S r x ∷ B) e

      h : Held S s v.look (standing S v.slot t.items)
      h = held S s v.look (standing S v.slot t.items) t.keeps.inv

      plays : Plays S s A
      plays =
          plays_left S s A (running r p ∷ B)
          (subst (λ K. Plays S s K) split (good_plays S v.look s (standing S v.slot t.items) t.keeps.inv.good))
