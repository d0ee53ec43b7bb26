-- The invariant gives the claim.
use Rattle.std.specs.Prelude.{◌≡◌, [], ◌∷◌, ◌++◌}
use Rattle.std.proofs.Common.{subst}
use Rattle.serial.specs.Core.{Sys, refused, done, running, Store, Journal, play, Claims, Good, Inv, Plays}

module _ (S : Sys) where
  open S use {eff}

  pub good_plays : (w s : Store S) (J : Journal S) → Good S w s J → Plays S s J
  good_plays w s [] g = tt
  good_plays w s (refused r n ∷ J) g = (g.0, good_plays w s J g.1)
  good_plays w s (done r a ∷ J) g = (g.0, g.1, good_plays w (eff r s) J g.2)
  good_plays w s (running r p ∷ J) g = good_plays w s J g.3

  pub plays_left : (s : Store S) (A B : Journal S) → Plays S s (A ++ B) → Plays S s A
  plays_left s [] B h = tt
  plays_left s (refused r n ∷ A) B h = (h.0, plays_left s A B h.1)
  plays_left s (done r a ∷ A) B h = (h.0, h.1, plays_left (eff r s) A B h.2)
  plays_left s (running r p ∷ A) B h = plays_left s A B h

  pub plays_right : (s : Store S) (A B : Journal S) → Plays S s (A ++ B) → Plays S (play S s A) B
  plays_right s [] B h = h
  plays_right s (refused r n ∷ A) B h = plays_right s A B h.1
  plays_right s (done r a ∷ A) B h = plays_right (eff r s) A B h.2
  plays_right s (running r p ∷ A) B h = plays_right s A B h

  pub claims : (s w : Store S) (J : Journal S) → Inv S s w J → Claims S s w J
  claims s w J i = record {
    accepts = λ A B r a e. (from A (done r a ∷ B) e).0;
    records = i.recs;
    answers = λ A B r a e. (from A (done r a ∷ B) e).1;
    refusals = λ A B r n e. (from A (refused r n ∷ B) e).0;
  }
    where
      from : (A B : Journal S) → J ≡ A ++ B → Plays S (play S s A) B
      from A B e = plays_right s A B (subst (λ K. Plays S s K) e (good_plays w s J i.good))
