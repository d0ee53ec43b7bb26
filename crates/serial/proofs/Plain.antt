-- The claim for a plain book of another make: how it is proved.
use Rattle.std.specs.Prelude.{◌≡◌, List, [], ◌∷◌, ◌++◌}
use Rattle.std.proofs.Common.{sym, ◌∙◌, ap, subst}
use Rattle.serial.specs.Core.{Sys, Store, Journal, refused, play, Plays, Inv}
use Rattle.serial.proofs.Core.{plays_left, plays_right, good_plays}
use Rattle.serial.specs.Order.{Done, finished, feed, Feeds, play_feed, plays_feeds, feeds_left, feeds_right}
use Rattle.serial.specs.Plain.{Plain, given, Demand}

module _ (S : Sys) (P : Plain S) where
  open S use {Rec, Req, Num, accepted, num, ans, eff}
  open P use {Book, asks, number, reply, after, shows, Given, takes, turns}

  abbrev Shows : Book → Store S → Type 0
  Shows b s = (X : Rec) → shows b X ≡ s X

  -- also of use for any other list that the book takes, as one in another order (Freer)
  pub given_feed : (b : Book) (s : Store S) (L : List (Done S)) → ((X : Rec) → shows b X ≡ s X) → Feeds S s L → (X : Rec)
      → shows (given S P b L) X ≡ feed S s L X
  given_feed b s [] m h = m
  given_feed b s (d ∷ L) m h = given_feed (after (asks d.what) b) (eff d.what s) L (takes d.what b s m h.0).2 h.2

  pub given_at : (b : Book) (s : Store S) (A B : List (Done S)) (d : Done S) → ((X : Rec) → shows b X ≡ s X) → Feeds S s (A ++ d ∷ B)
      → (number (asks d.what) (given S P b A) ≡ accepted) × (reply (asks d.what) (given S P b A) ≡ d.gave)
  given_at b s A B d m h = (t.0, t.1 ∙ k.1)
    where
      k : Feeds S (feed S s A) (d ∷ B)
      k = feeds_right S s A (d ∷ B) h

      t : (number (asks d.what) (given S P b A) ≡ accepted) × (reply (asks d.what) (given S P b A) ≡ ans d.what (feed S s A))
          × Shows (after (asks d.what) (given S P b A)) (eff d.what (feed S s A))
      t = takes d.what (given S P b A) (feed S s A) (given_feed b s A m (feeds_left S s A (d ∷ B) h)) k.0

  pub demand : (b : Book) (s w : Store S) (J : Journal S) → ((X : Rec) → shows b X ≡ s X) → Inv S s w J → Demand S P b w J
  demand b s w J m i = record {
    accepts = λ A B d e. (given_at b s A B d m (fed A B d e)).0;
    records = λ X q. i.recs X q ∙ ap (λ t. t X) (play_feed S s J) ∙ sym (given_feed b s (finished S J) m (plays_feeds S s J plays) X);
    answers = λ A B d e. (given_at b s A B d m (fed A B d e)).1;
    refusals = λ A B r n e g. turns r (given S P b (finished S A)) (play S s A) (at A (refused r n ∷ B) e)
        (subst Given (sym (here A r n B e)) g) ∙ here A r n B e;
  }
    where
      plays : Plays S s J
      plays = good_plays S w s J i.good

      fed : (A B : List (Done S)) (d : Done S) → finished S J ≡ A ++ d ∷ B → Feeds S s (A ++ d ∷ B)
      fed A B d e = subst (λ L. Feeds S s L) e (plays_feeds S s J plays)

      here : (A : Journal S) (r : Req) (n : Num) (B : Journal S) → J ≡ A ++ refused r n ∷ B → num r (play S s A) ≡ n
      here A r n B e = (plays_right S s A (refused r n ∷ B) (subst (λ K. Plays S s K) e plays)).0

      at : (A B : Journal S) → J ≡ A ++ B → Shows (given S P b (finished S A)) (play S s A)
      at A B e X =
          given_feed b s (finished S A) m (plays_feeds S s A (plays_left S s A B (subst (λ K. Plays S s K) e plays))) X
          ∙ sym (ap (λ t. t X) (play_feed S s A))
