-- The done requests of a journal as a list, in the order of acceptance, and the book fed with such a list.
use Rattle.std.specs.Prelude.{◌≡◌, refl, List, [], ◌∷◌, ◌++◌}
use Rattle.std.proofs.Common.{ap}
use Rattle.serial.specs.Core.{Sys, refused, done, running, Store, Journal, play, Plays}

-- a done request and its answer
pub record Done (S : Sys) : Type 0 where
  pub what : S.Req
  pub gave : S.Ans

module _ (S : Sys) where
  open S use {accepted, num, ans, eff}

  abbrev pub finished : Journal S → List (Done S)
  finished [] = []
  finished (refused r n ∷ J) = finished J
  finished (done r a ∷ J) = record { what = r; gave = a } ∷ finished J
  finished (running r p ∷ J) = finished J

  -- the book's records, once it has been given these requests one at a time, each whole
  abbrev pub feed : Store S → List (Done S) → Store S
  feed s [] = s
  feed s (d ∷ L) = feed (eff d.what s) L

  -- it accepts each, and answers the same
  abbrev pub Feeds : Store S → List (Done S) → Type 0
  Feeds s [] = Unit {0}
  Feeds s (d ∷ L) = (num d.what s ≡ accepted) × (ans d.what s ≡ d.gave) × Feeds (eff d.what s) L

  -- ---- The journal's book and the list's are one

  pub play_feed : (s : Store S) (J : Journal S) → play S s J ≡ feed s (finished J)
  play_feed s [] = refl
  play_feed s (refused r n ∷ J) = play_feed s J
  play_feed s (done r a ∷ J) = play_feed (eff r s) J
  play_feed s (running r p ∷ J) = play_feed s J

  pub plays_feeds : (s : Store S) (J : Journal S) → Plays S s J → Feeds s (finished J)
  plays_feeds s [] h = tt
  plays_feeds s (refused r n ∷ J) h = plays_feeds s J h.1
  plays_feeds s (done r a ∷ J) h = (h.0, h.1, plays_feeds (eff r s) J h.2)
  plays_feeds s (running r p ∷ J) h = plays_feeds s J h

  pub feeds_left : (s : Store S) (A B : List (Done S)) → Feeds s (A ++ B) → Feeds s A
  feeds_left s [] B h = tt
  feeds_left s (d ∷ A) B h = (h.0, h.1, feeds_left (eff d.what s) A B h.2)

  pub feeds_right : (s : Store S) (A B : List (Done S)) → Feeds s (A ++ B) → Feeds (feed s A) B
  feeds_right s [] B h = h
  feeds_right s (d ∷ A) B h = feeds_right (eff d.what s) A B h.2

  pub finished_append : (A B : Journal S) → finished (A ++ B) ≡ finished A ++ finished B
  finished_append [] B = refl
  finished_append (refused r n ∷ A) B = finished_append A B
  finished_append (done r a ∷ A) B = ap (λ l. record { what = r; gave = a } ∷ l) (finished_append A B)
  finished_append (running r p ∷ A) B = finished_append A B
