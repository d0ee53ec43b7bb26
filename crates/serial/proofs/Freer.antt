-- The freer order: any order of the done requests that keeps the order of those that meet gives the same records and answers.
--
-- Two requests meet if there is a record that both see and one of them writes. `Reorder Loose L K` says that K has the requests of
-- L in another order, in which only such pairs have changed places as `Loose` allows. `Apart`, the loosest, allows all that do not
-- meet; a statement that counts more requests as meeting than do uses a narrower relation (`reorder_narrow`).
--
-- Demand 3 of document 01 has the order of acceptance alone. Request 12 asks for the freer orders, and counts HW2SW_CQ and CLOSE_HCA as
-- meeting more requests than they do: there a narrower relation is used.
use Rattle.std.specs.Prelude.{◌≡◌, refl, List, [], ◌∷◌, ◌++◌}
use Rattle.std.proofs.Common.{sym, ◌∙◌, ap, subst, append_assoc, append-nil}
use Rattle.std.proofs.Math.Path.{fun_ext}
use Rattle.serial.specs.Core.{Sys, Store}
use Rattle.serial.specs.Order.{Done, feed, Feeds}

module _ (S : Sys) where
  open S use {Rec, Req, accepted, Sees, Writes, writes?, writes_holds, holds_sees}
  open S use {num, ans, eff, num_local, ans_local, eff_local, eff_frame}

  pub record Apart (p q : Req) : Type 0 where
    pub left : (X : Rec) → Writes p X → ¬ Sees q X
    pub right : (X : Rec) → Writes q X → ¬ Sees p X

  abbrev pub AllLoose : (Req → Req → Type 0) → Req → List (Done S) → Type 0
  AllLoose Loose r [] = Unit {0}
  AllLoose Loose r (d ∷ L) = Loose r d.what × AllLoose Loose r L

  -- the first request moves back behind A, past none but such as it may change places with
  pub data Reorder (Loose : Req → Req → Type 0) : List (Done S) → List (Done S) → Type 0 where
    none : Reorder Loose [] []
    move : {d : Done S} {L : List (Done S)} (A B : List (Done S)) → AllLoose Loose d.what A → Reorder Loose L (A ++ B)
        → Reorder Loose (d ∷ L) (A ++ d ∷ B)

  -- ---- Two requests that do not meet

  away : (p q : Req) (s : Store S) → Apart p q → (X : Rec) → Sees q X → eff p s X ≡ s X
  away p q s c X y = eff_frame p s X (λ w. c.left X w y)

  flip : (p q : Req) → Apart p q → Apart q p
  flip p q c = record { left = c.right; right = c.left }

  swap : (p q : Req) (s : Store S) → Apart p q → eff q (eff p s) ≡ eff p (eff q s)
  swap p q s c = fun_ext (λ X. go X (writes? p X) (writes? q X))
    where
      go : (X : Rec) → Dec (Writes p X) → Dec (Writes q X) → eff q (eff p s) X ≡ eff p (eff q s) X
      go X (yes y) (yes z) = absurd (c.left X y (holds_sees q X (writes_holds q X z)))
      go X (yes y) (no z) = eff_frame q (eff p s) X z ∙ sym (eff_local p (eff q s) s (away q p s (flip p q c)) X y)
      go X (no y) (yes z) = eff_local q (eff p s) s (away p q s c) X z ∙ sym (eff_frame p (eff q s) X y)
      go X (no y) (no z) = eff_frame q (eff p s) X z ∙ eff_frame p s X y ∙ sym (eff_frame p (eff q s) X y ∙ eff_frame q s X z)

  -- ---- One request moves back

  feeds_past : (d : Done S) (s : Store S) (A B : List (Done S)) → AllLoose Apart d.what A → num d.what s ≡ accepted
      → ans d.what s ≡ d.gave
      → Feeds S (eff d.what s) (A ++ B) → Feeds S s (A ++ d ∷ B)
  feeds_past d s [] B c n a h = (n, a, h)
  feeds_past d s (e ∷ A) B c n a h = (
    sym (num_local e.what (eff d.what s) s (away d.what e.what s c.0)) ∙ h.0,
    sym (ans_local e.what (eff d.what s) s (away d.what e.what s c.0)) ∙ h.1,
    feeds_past d (eff e.what s) A B c.1
        (num_local d.what (eff e.what s) s (away e.what d.what s (flip d.what e.what c.0)) ∙ n)
        (ans_local d.what (eff e.what s) s (away e.what d.what s (flip d.what e.what c.0)) ∙ a)
        (subst (λ t. Feeds S t (A ++ B)) (swap d.what e.what s c.0) h.2),
  )

  feed_past : (d : Done S) (s : Store S) (A B : List (Done S)) → AllLoose Apart d.what A
      → feed S (eff d.what s) (A ++ B) ≡ feed S s (A ++ d ∷ B)
  feed_past d s [] B c = refl
  feed_past d s (e ∷ A) B c =
      ap (λ t. feed S t (A ++ B)) (swap d.what e.what s c.0) ∙ feed_past d (eff e.what s) A B c.1

  -- ---- THE THEOREM: the book accepts them in the other order, with the same answers; and the records are the same

  pub reorder_feeds : (s : Store S) {L K : List (Done S)} → Reorder Apart L K → Feeds S s L → Feeds S s K
  reorder_feeds s none h = tt
  reorder_feeds s (move {d = d} A B c r) h = feeds_past d s A B c h.0 h.1 (reorder_feeds (eff d.what s) r h.2)

  pub reorder_feed : (s : Store S) {L K : List (Done S)} → Reorder Apart L K → feed S s L ≡ feed S s K
  reorder_feed s none = refl
  reorder_feed s (move {d = d} A B c r) = reorder_feed (eff d.what s) r ∙ feed_past d s A B c

  -- ---- Reorderings

  module _ (Narrow Loose : Req → Req → Type 0) (looser : (p q : Req) → Narrow p q → Loose p q) where
    all_looser : (r : Req) (A : List (Done S)) → AllLoose Narrow r A → AllLoose Loose r A
    all_looser r [] c = tt
    all_looser r (d ∷ A) c = (looser r d.what c.0, all_looser r A c.1)

    pub reorder_narrow : {L K : List (Done S)} → Reorder Narrow L K → Reorder Loose L K
    reorder_narrow none = none
    reorder_narrow (move {d = d} A B c r) = move A B (all_looser d.what A c) (reorder_narrow r)

  module _ (Loose : Req → Req → Type 0) where
    all_reorder : (x : Req) {L K : List (Done S)} → Reorder Loose L K → AllLoose Loose x L → AllLoose Loose x K
    all_reorder x none c = tt
    all_reorder x (move {d = d} A B y r) c = put A (all_reorder x r c.1)
      where
        put : (A : List (Done S)) → AllLoose Loose x (A ++ B) → AllLoose Loose x (A ++ d ∷ B)
        put [] z = (c.0, z)
        put (e ∷ A) z = (z.0, put A z.1)

    -- a request that stands before G in the one order comes last in the other
    pub reorder_last : (x : Done S) (F G K : List (Done S)) → Reorder Loose (F ++ G) K → AllLoose Loose x.what G
        → Reorder Loose (F ++ x ∷ G) (K ++ x ∷ [])
    reorder_last x [] G K r c = move K [] (all_reorder x.what r c) (subst (λ l. Reorder Loose G l) (sym (append-nil K)) r)
    reorder_last x (d ∷ F) G K (move A B y r) c =
        subst (λ l. Reorder Loose (d ∷ (F ++ x ∷ G)) l) (sym (append_assoc A (d ∷ B) (x ∷ [])))
        (move A (B ++ x ∷ []) y (subst (λ l. Reorder Loose (F ++ x ∷ G) l) (append_assoc A B (x ∷ [])) (reorder_last x F G (A ++ B) r c)))
