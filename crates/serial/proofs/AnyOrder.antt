-- The plain book, fed with the finished requests in any of the freer orders: the same records and the same answers. For request 12, as
-- Freer and Finishing are.
use Rattle.std.specs.Prelude.{◌≡◌, List, ◌∷◌, ◌++◌}
use Rattle.std.proofs.Common.{sym, ◌∙◌, ap, subst}
use Rattle.serial.specs.Core.{Sys, Store, Journal, Quiet, Inv}
use Rattle.serial.proofs.Core.{good_plays}
use Rattle.serial.specs.Order.{Done, finished, Feeds, play_feed, plays_feeds}
use Rattle.serial.specs.Plain.{Plain, given}
use Rattle.serial.proofs.Plain.{given_feed, given_at}
use Rattle.serial.proofs.Freer.{Apart, Reorder, reorder_feeds, reorder_feed}

module _ (S : Sys) (P : Plain S) where
  open S use {Rec, accepted}
  open P use {Book, asks, number, reply, shows}

  -- as Demand in Plain, for the finished requests in the order K
  pub record InOrder (b : Book) (w : Store S) (J : Journal S) (K : List (Done S)) : Type 0 where
    pub accepts : (A B : List (Done S)) (d : Done S) → K ≡ A ++ d ∷ B → number (asks d.what) (given S P b A) ≡ accepted
    pub records : (X : Rec) → Quiet S X J → w X ≡ shows (given S P b K) X
    pub answers : (A B : List (Done S)) (d : Done S) → K ≡ A ++ d ∷ B → reply (asks d.what) (given S P b A) ≡ d.gave

  pub in_order : (b : Book) (s w : Store S) (J : Journal S) (K : List (Done S)) → ((X : Rec) → shows b X ≡ s X) → Inv S s w J
      → Reorder S (Apart S) (finished S J) K → InOrder b w J K
  in_order b s w J K m i o = record {
    accepts = λ A B d e. (given_at S P b s A B d m (subst (λ L. Feeds S s L) e fed)).0;
    records = λ X q. i.recs X q ∙ ap (λ t. t X) (play_feed S s J ∙ reorder_feed S s o) ∙ sym (given_feed S P b s K m fed X);
    answers = λ A B d e. (given_at S P b s A B d m (subst (λ L. Feeds S s L) e fed)).1;
  }
    where
      fed : Feeds S s K
      fed = reorder_feeds S s o (plays_feeds S s J (good_plays S w s J i.good))
