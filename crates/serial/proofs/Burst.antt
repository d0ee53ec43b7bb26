-- A burst keeps the invariant: one that is not the last (`step_inv`), and the last (`last_inv`).
-- The reason: what r writes no later request sees, and no earlier running request holds. So all that the invariant says of the
-- others stays as it is when the store changes in what r writes alone.
use Rattle.std.specs.Prelude.{◌≡◌, refl, [], ◌∷◌, ◌++◌}
use Rattle.std.proofs.Common.{sym, ◌∙◌}
use Rattle.serial.specs.Core.{Alike, Sys, Entry, refused, done, running, Store, Journal, play, Quiet, req, Passes, Clear, Good, Inv}
use Rattle.serial.specs.Burst.{Elsewhere}

module _ (S : Sys) where
  open S use {Rec, Req, Ans, Prog, Sees, Holds, Writes, writes?, writes_holds}
  open S use {holds_sees, ans, eff, num_local, ans_local, eff_local, eff_frame, Mid, mid_local}

  -- ---- Requests that passed r's holds, in two such stores

  seen : (r q : Req) (s t : Store S) → Passes S r q → Elsewhere S r s t → Alike (Sees q) s t
  seen r q s t c h X sq = h X (λ wr. c.out X wr sq)

  eff_elsewhere : (r q : Req) (s t : Store S) → Passes S r q → Elsewhere S r s t → Elsewhere S r (eff q s) (eff q t)
  eff_elsewhere r q s t c h X nr = go (writes? q X)
    where
      go : Dec (Writes q X) → eff q s X ≡ eff q t X
      go (yes y) = eff_local q s t (seen r q s t c h) X y
      go (no y) = eff_frame q s X y ∙ h X nr ∙ sym (eff_frame q t X y)

  good_elsewhere : (r : Req) (w u s t : Store S) (J : Journal S) → Elsewhere S r s t → Elsewhere S r w u → Clear S r J → Good S w s J
      → Good S u t J
  good_elsewhere r w u s t [] h k c g = tt
  good_elsewhere r w u s t (refused q n ∷ J) h k c g =
      (sym (num_local q s t (seen r q s t c.0 h)) ∙ g.0, good_elsewhere r w u s t J h k c.1 g.1)
  good_elsewhere r w u s t (done q a ∷ J) h k c g = (
    sym (num_local q s t (seen r q s t c.0 h)) ∙ g.0,
    sym (ans_local q s t (seen r q s t c.0 h)) ∙ g.1,
    good_elsewhere r w u (eff q s) (eff q t) J (eff_elsewhere r q s t c.0 h) k c.1 g.2,
  )
  good_elsewhere r w u s t (running q p ∷ J) h k c g = (
    sym (num_local q s t (seen r q s t c.0 h)) ∙ g.0,
    mid_local q p s t w u (seen r q s t c.0 h) (λ X hq. k X (λ wr. c.0.out X wr (holds_sees q X hq))) g.1,
    g.2,
    good_elsewhere r w u s t J h k c.1 g.3,
  )

  play_elsewhere : (r : Req) (s t : Store S) (J : Journal S) → Elsewhere S r s t → Clear S r J → Elsewhere S r (play S s J) (play S t J)
  play_elsewhere r s t [] h c = h
  play_elsewhere r s t (refused q n ∷ J) h c = play_elsewhere r s t J h c.1
  play_elsewhere r s t (done q a ∷ J) h c = play_elsewhere r (eff q s) (eff q t) J (eff_elsewhere r q s t c.0 h) c.1
  play_elsewhere r s t (running q p ∷ J) h c = play_elsewhere r s t J h c.1

  play_kept : (r : Req) (s : Store S) (J : Journal S) (X : Rec) → Writes r X → Clear S r J → play S s J X ≡ s X
  play_kept r s [] X y c = refl
  play_kept r s (refused q n ∷ J) X y c = play_kept r s J X y c.1
  play_kept r s (done q a ∷ J) X y c =
      play_kept r (eff q s) J X y c.1 ∙ eff_frame q s X (λ z. c.0.back X z (writes_holds r X y))
  play_kept r s (running q p ∷ J) X y c = play_kept r s J X y c.1

  -- ---- An entry in the middle of a journal changes; its request stays

  clear_at : (q : Req) (A : Journal S) (e : Entry S) (B : Journal S) → Clear S q (A ++ e ∷ B) → Passes S q (req S e)
  clear_at q [] e B c = c.0
  clear_at q (x ∷ A) e B c = clear_at q A e B c.1

  clear_put : (q : Req) (A : Journal S) (e f : Entry S) (B : Journal S)
      → (Passes S q (req S e) → Passes S q (req S f)) → Clear S q (A ++ e ∷ B) → Clear S q (A ++ f ∷ B)
  clear_put q [] e f B i c = (i c.0, c.1)
  clear_put q (x ∷ A) e f B i c = (c.0, clear_put q A e f B i c.1)

  pub good_clear : (w s : Store S) (A : Journal S) (r : Req) (p : Prog) (B : Journal S) → Good S w s (A ++ running r p ∷ B) → Clear S r B
  good_clear w s [] r p B g = g.2
  good_clear w s (refused q n ∷ A) r p B g = good_clear w s A r p B g.1
  good_clear w s (done q a ∷ A) r p B g = good_clear w (eff q s) A r p B g.2
  good_clear w s (running q m ∷ A) r p B g = good_clear w s A r p B g.3

  -- ---- The two bursts: r moves, the store goes from w to u

  module _ (r : Req) (p : Prog) (B : Journal S) (w u : Store S) (off : Elsewhere S r w u) where
    other : (q : Req) → Passes S q r → Alike (Holds q) w u
    other q c X hq = off X (λ wr. c.back X wr hq)

    -- a burst that is not the last
    module _ (p' : Prog) (mid : (t : Store S) → Mid r p t w → Mid r p' t u) where
      step_good : (s : Store S) (A : Journal S) → Good S w s (A ++ running r p ∷ B) → Good S u s (A ++ running r p' ∷ B)
      step_good s [] g = (g.0, mid s g.1, g.2, good_elsewhere r w u s s B (λ X n. refl) off g.2 g.3)
      step_good s (refused q n ∷ A) g = (g.0, step_good s A g.1)
      step_good s (done q a ∷ A) g = (g.0, g.1, step_good (eff q s) A g.2)
      step_good s (running q m ∷ A) g = (
        g.0,
        mid_local q m s s w u (λ X y. refl) (other q (clear_at q A (running r p) B g.2)) g.1,
        clear_put q A (running r p) (running r p') B (λ c. c) g.2,
        step_good s A g.3,
      )

      step_recs : (s : Store S) (A : Journal S) (X : Rec)
          → (Quiet S X (A ++ running r p ∷ B) → w X ≡ play S s (A ++ running r p ∷ B) X)
          → Quiet S X (A ++ running r p' ∷ B) → u X ≡ play S s (A ++ running r p' ∷ B) X
      step_recs s [] X h q = sym (off X q.0) ∙ h q
      step_recs s (refused o n ∷ A) X h q = step_recs s A X h q
      step_recs s (done o a ∷ A) X h q = step_recs (eff o s) A X h q
      step_recs s (running o m ∷ A) X h q = step_recs s A X (λ z. h (q.0, z)) q.1

      pub step_inv : (s : Store S) (A : Journal S) → Inv S s w (A ++ running r p ∷ B) → Inv S s u (A ++ running r p' ∷ B)
      step_inv s A i = record { good = step_good s A i.good; recs = λ X. step_recs s A X (i.recs X) }

    -- the last burst
    module _ (a : Ans) (fin : (t : Store S) → Mid r p t w → (ans r t ≡ a) × Alike (Writes r) u (eff r t)) where
      last_good : (s : Store S) (A : Journal S) → Good S w s (A ++ running r p ∷ B) → Good S u s (A ++ done r a ∷ B)
      last_good s [] g =
          (g.0, (fin s g.1).0, good_elsewhere r w u s (eff r s) B (λ X n. sym (eff_frame r s X n)) off g.2 g.3)
      last_good s (refused q n ∷ A) g = (g.0, last_good s A g.1)
      last_good s (done q b ∷ A) g = (g.0, g.1, last_good (eff q s) A g.2)
      last_good s (running q m ∷ A) g = (
        g.0,
        mid_local q m s s w u (λ X y. refl) (other q (clear_at q A (running r p) B g.2)) g.1,
        clear_put q A (running r p) (done r a) B (λ c. c) g.2,
        last_good s A g.3,
      )

      last_recs : (s : Store S) (A : Journal S) (X : Rec) → Good S w s (A ++ running r p ∷ B)
          → (Quiet S X (A ++ running r p ∷ B) → w X ≡ play S s (A ++ running r p ∷ B) X)
          → Quiet S X (A ++ done r a ∷ B) → u X ≡ play S s (A ++ done r a ∷ B) X
      last_recs s [] X g h q = go (writes? r X)
        where
          go : Dec (Writes r X) → u X ≡ play S (eff r s) B X
          go (yes y) = (fin s g.1).1 X y ∙ sym (play_kept r (eff r s) B X y g.2)
          go (no y) = sym (off X y) ∙ h (y, q) ∙ play_elsewhere r s (eff r s) B (λ Y n. sym (eff_frame r s Y n)) g.2 X y
      last_recs s (refused o n ∷ A) X g h q = last_recs s A X g.1 h q
      last_recs s (done o b ∷ A) X g h q = last_recs (eff o s) A X g.2 h q
      last_recs s (running o m ∷ A) X g h q = last_recs s A X g.3 (λ z. h (q.0, z)) q.1

      pub last_inv : (s : Store S) (A : Journal S) → Inv S s w (A ++ running r p ∷ B) → Inv S s u (A ++ done r a ∷ B)
      last_inv s A i = record { good = last_good s A i.good; recs = λ X. last_recs s A X i.good (i.recs X) }
