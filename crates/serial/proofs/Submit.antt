-- A submission keeps the invariant: refused because of a record's state (`refuse_inv`), accepted (`accept_inv`), or done at
-- once (`instant_inv`).
-- The reason: a request that passed all holds sees no record that a running request writes. All that it sees is the book's
-- already, so its verdict and its answer in the real store are those in the book's.
use Rattle.std.specs.Prelude.{◌≡◌, refl, [], ◌∷◌, ◌++◌}
use Rattle.std.proofs.Common.{sym, ◌∙◌, ap}
use Rattle.serial.specs.Core.{Alike, Sys, Entry, refused, done, running, Store, Journal}
use Rattle.serial.specs.Core.{play, Quiet, req, Passes, Passed, Clear, Good, Inv}
use Rattle.serial.specs.Burst.{Elsewhere}

module _ (S : Sys) where
  open S use {Rec, Req, Ans, Num, accepted, Prog, Sees, Writes, writes?}
  open S use {num, ans, eff, num_local, ans_local, eff_local, eff_frame, Mid, mid_local}

  quiet_of : (J : Journal S) (q : Req) (X : Rec) → Sees q X → Passed S J q → Quiet S X J
  quiet_of [] q X y c = tt
  quiet_of (refused r n ∷ J) q X y c = quiet_of J q X y c
  quiet_of (done r a ∷ J) q X y c = quiet_of J q X y c
  quiet_of (running r p ∷ J) q X y c = ((λ wr. c.0.out X wr y), quiet_of J q X y c.1)

  -- ---- One more entry at the end

  clear_snoc : (q : Req) (J : Journal S) (e : Entry S) → Passes S q (req S e) → Clear S q J → Clear S q (J ++ e ∷ [])
  clear_snoc q [] e y c = (y, tt)
  clear_snoc q (x ∷ J) e y c = (c.0, clear_snoc q J e y c.1)

  good_snoc : (w u s : Store S) (J : Journal S) (e : Entry S) → Elsewhere S (req S e) w u → Passed S J (req S e)
      → Good S u (play S s J) (e ∷ []) → Good S w s J → Good S u s (J ++ e ∷ [])
  good_snoc w u s [] e k c n g = n
  good_snoc w u s (refused q m ∷ J) e k c n g = (g.0, good_snoc w u s J e k c n g.1)
  good_snoc w u s (done q a ∷ J) e k c n g = (g.0, g.1, good_snoc w u (eff q s) J e k c n g.2)
  good_snoc w u s (running q p ∷ J) e k c n g = (
    g.0,
    mid_local q p s s w u (λ X y. refl) (λ X hq. k X (λ wr. c.0.back X wr hq)) g.1,
    clear_snoc q J e c.0 g.2,
    good_snoc w u s J e k c.1 n g.3,
  )

  play_snoc : (s : Store S) (J K : Journal S) → play S s (J ++ K) ≡ play S (play S s J) K
  play_snoc s [] K = refl
  play_snoc s (refused q m ∷ J) K = play_snoc s J K
  play_snoc s (done q a ∷ J) K = play_snoc (eff q s) J K
  play_snoc s (running q p ∷ J) K = play_snoc s J K

  quiet_left : (X : Rec) (J K : Journal S) → Quiet S X (J ++ K) → Quiet S X J
  quiet_left X [] K q = tt
  quiet_left X (refused r m ∷ J) K q = quiet_left X J K q
  quiet_left X (done r a ∷ J) K q = quiet_left X J K q
  quiet_left X (running r p ∷ J) K q = (q.0, quiet_left X J K q.1)

  -- ---- The three submissions: r passes all holds

  module _ (s w : Store S) (J : Journal S) (i : Inv S s w J) (r : Req) (c : Passed S J r) where
    now : Alike (Sees r) w (play S s J)
    now X y = i.recs X (quiet_of J r X y c)

    -- the book's records afterwards, where nothing is done at once
    unmoved : (e : Entry S) → ((X : Rec) → play S (play S s J) (e ∷ []) X ≡ play S s J X)
        → (X : Rec) → Quiet S X (J ++ e ∷ []) → w X ≡ play S s (J ++ e ∷ []) X
    unmoved e k X q = i.recs X (quiet_left X J (e ∷ []) q) ∙ sym (ap (λ t. t X) (play_snoc s J (e ∷ [])) ∙ k X)

    pub refuse_inv : (n : Num) → num r w ≡ n → Inv S s w (J ++ refused r n ∷ [])
    refuse_inv n e = record {
      good = good_snoc w w s J (refused r n) (λ X y. refl) c (sym (num_local r w (play S s J) now) ∙ e, tt) i.good;
      recs = unmoved (refused r n) (λ X. refl);
    }

    pub accept_inv : (p : Prog) → num r w ≡ accepted → Mid r p w w → Inv S s w (J ++ running r p ∷ [])
    accept_inv p e m = record {
      good = good_snoc w w s J (running r p) (λ X y. refl) c
          (sym (num_local r w (play S s J) now) ∙ e, mid_local r p w (play S s J) w w now (λ X y. refl) m, tt, tt) i.good;
      recs = unmoved (running r p) (λ X. refl);
    }

    pub instant_inv : (u : Store S) (a : Ans) → num r w ≡ accepted → ans r w ≡ a → ((X : Rec) → u X ≡ eff r w X)
        → Inv S s u (J ++ done r a ∷ [])
    instant_inv u a e f h = record {
      good = good_snoc w u s J (done r a) (λ X n. sym (h X ∙ eff_frame r w X n)) c
          (sym (num_local r w (play S s J) now) ∙ e, sym (ans_local r w (play S s J) now) ∙ f, tt) i.good;
      recs = λ X q. h X ∙ go X (quiet_left X J (done r a ∷ []) q) (writes? r X) ∙ sym (ap (λ t. t X) (play_snoc s J (done r a ∷ [])));
    }
      where
        go : (X : Rec) → Quiet S X J → Dec (Writes r X) → eff r w X ≡ eff r (play S s J) X
        go X q (yes y) = eff_local r w (play S s J) now X y
        go X q (no y) = eff_frame r w X y ∙ i.recs X q ∙ sym (eff_frame r (play S s J) X y)
