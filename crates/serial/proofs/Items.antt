-- The items of a journal and the slots they are in: one slot changes, one item is found, one is settled.
use Rattle.std.specs.Prelude.{◌≡◌, refl, List, [], ◌∷◌, ◌++◌, ◌⊎◌, ℕ}
use Rattle.std.proofs.Common.{sym, ◌∙◌, ap, ap₂, subst, inl, inr}
use Rattle.std.proofs.Math.Decide.{ℕ_discrete}
use Rattle.serial.specs.Core.{Sys, refused, done, Passes, Passed, Store}
use Rattle.serial.specs.Slots.{Slot, free, runs, ended, View, Item, off, gone, inside, settle_one, settle}
use Rattle.serial.specs.Slots.{entry, stand, stands, PassesAll, But, keep, owners, holder, Keeps}

module _ (S : Sys) where
  open S use {Req, Ans, Prog}

  -- ---- Lists of requests

  cons≢nil : {r : Req} {l : List Req} → r ∷ l ≡ [] → ⊥
  cons≢nil e = subst D e tt
    where
      D : List Req → Type 0
      D [] = ⊥
      D (x ∷ l) = Unit {0}

  head_eq : {q r : Req} {l m : List Req} → q ∷ l ≡ r ∷ m → q ≡ r
  head_eq {q} {r} e = ap hd e
    where
      hd : List Req → Req
      hd [] = q
      hd (x ∷ l) = x

  tail_eq : {q r : Req} {l m : List Req} → q ∷ l ≡ r ∷ m → l ≡ m
  tail_eq e = ap tl e
    where
      tl : List Req → List Req
      tl [] = []
      tl (x ∷ l) = l

  pub keep_yes : {j k : ℕ} (d : Dec (j ≡ k)) → j ≡ k → (r : Req) (l : List Req) → keep S d r l ≡ r ∷ l
  keep_yes (yes e) f r l = refl
  keep_yes (no e) f r l = absurd (e f)

  pub keep_no : {j k : ℕ} (d : Dec (j ≡ k)) → ¬ (j ≡ k) → (r : Req) (l : List Req) → keep S d r l ≡ l
  keep_no (yes e) f r l = absurd (f e)
  keep_no (no e) f r l = refl

  pub owners_append : (k : ℕ) (A B : List (Item S)) → owners S k (A ++ B) ≡ owners S k A ++ owners S k B
  owners_append k [] B = refl
  owners_append k (off r n ∷ A) B = owners_append k A B
  owners_append k (gone r a ∷ A) B = owners_append k A B
  owners_append k (inside r j ∷ A) B = go (ℕ_discrete j k) (owners_append k A B)
    where
      go : (d : Dec (j ≡ k)) → owners S k (A ++ B) ≡ owners S k A ++ owners S k B
          → keep S d r (owners S k (A ++ B)) ≡ keep S d r (owners S k A) ++ owners S k B
      go (yes e) h = ap (λ l. r ∷ l) h
      go (no e) h = h

  -- ---- A slot changes that none of these items is in

  pub stands_append : (v : ℕ → Slot S) (A B : List (Item S)) → stands S v (A ++ B) ≡ stands S v A ++ stands S v B
  stands_append v [] B = refl
  stands_append v (x ∷ A) B = ap (λ l. stand S v x ∷ l) (stands_append v A B)

  pub stands_but : (v u : ℕ → Slot S) (k : ℕ) (J : List (Item S)) → ((j : ℕ) → ¬ (j ≡ k) → u j ≡ v j) → owners S k J ≡ []
      → stands S u J ≡ stands S v J
  stands_but v u k [] h o = refl
  stands_but v u k (off r n ∷ J) h o = ap (λ l. refused r n ∷ l) (stands_but v u k J h o)
  stands_but v u k (gone r a ∷ J) h o = ap (λ l. done r a ∷ l) (stands_but v u k J h o)
  stands_but v u k (inside r j ∷ J) h o = go (ℕ_discrete j k) o (stands_but v u k J h)
    where
      go : (d : Dec (j ≡ k)) → keep S d r (owners S k J) ≡ [] → (owners S k J ≡ [] → stands S u J ≡ stands S v J)
          → entry S r (u j) ∷ stands S u J ≡ entry S r (v j) ∷ stands S v J
      go (yes e) n ih = absurd (cons≢nil n)
      go (no e) n ih = ap₂ (λ x l. entry S r x ∷ l) (h j e) (ih n)

  pub own_but : (s : Store S) (v u : View S) (J K : List (Item S)) (k : ℕ) → Keeps S s v J → But S k v u
      → owners S k K ≡ holder S (u.slot k)
      → ((j : ℕ) → ¬ (j ≡ k) → owners S j K ≡ owners S j J) → (j : ℕ) → owners S j K ≡ holder S (u.slot j)
  own_but s v u J K k i h at but j = go (ℕ_discrete j k)
    where
      go : Dec (j ≡ k) → owners S j K ≡ holder S (u.slot j)
      go (yes e) = subst (λ x. owners S x K ≡ holder S (u.slot x)) (sym e) at
      go (no e) = but j e ∙ i.own j ∙ ap (holder S) (sym (h j e))

  -- ---- The one item in slot k

  pub record Located (k : ℕ) (r : Req) (J : List (Item S)) : Type 0 where
    pub before : List (Item S)
    pub after : List (Item S)
    pub split : J ≡ before ++ inside r k ∷ after
    pub not_before : owners S k before ≡ []
    pub not_after : owners S k after ≡ []

  cons_located : (k : ℕ) (r : Req) (x : Item S) (J : List (Item S)) → ((B : List (Item S)) → owners S k (x ∷ B) ≡ owners S k B)
      → Located k r J → Located k r (x ∷ J)
  cons_located k r x J h c = record {
    before = x ∷ c.before;
    after = c.after;
    split = ap (λ l. x ∷ l) c.split;
    not_before = h c.before ∙ c.not_before;
    not_after = c.not_after;
  }

  pub locate : (k : ℕ) (r : Req) (J : List (Item S)) → owners S k J ≡ r ∷ [] → Located k r J
  locate k r [] o = absurd (cons≢nil (sym o))
  locate k r (off q n ∷ J) o = cons_located k r (off q n) J (λ B. refl) (locate k r J o)
  locate k r (gone q a ∷ J) o = cons_located k r (gone q a) J (λ B. refl) (locate k r J o)
  locate k r (inside q j ∷ J) o = go (ℕ_discrete j k) refl o (locate k r J)
    where
      go : (d : Dec (j ≡ k)) → ℕ_discrete j k ≡ d → keep S d q (owners S k J) ≡ r ∷ [] → (owners S k J ≡ r ∷ [] → Located k r J)
          → Located k r (inside q j ∷ J)
      go (yes e) f n ih = record {
        before = [];
        after = J;
        split = ap₂ (λ x y. inside x y ∷ J) (head_eq n) e;
        not_before = refl;
        not_after = tail_eq n;
      }
      go (no e) f n ih = cons_located k r (inside q j) J (λ B. ap (λ d. keep S d q (owners S k B)) f) (ih n)

  -- the journal around it, which does not change when slot k does
  pub around : (v u : View S) (J : List (Item S)) (k : ℕ) (r : Req) (c : Located k r J) → But S k v u
      → stands S u.slot J ≡ stands S v.slot c.before ++ entry S r (u.slot k) ∷ stands S v.slot c.after
  around v u J k r c h =
      ap (stands S u.slot) c.split ∙ stands_append u.slot c.before (inside r k ∷ c.after)
      ∙ ap₂ (λ a b. a ++ entry S r (u.slot k) ∷ b) (stands_but v.slot u.slot k c.before h c.not_before)
      (stands_but v.slot u.slot k c.after h c.not_after)

  -- ---- A request that passes every running slot passes every running entry

  abbrev Tied : Req → Slot S → Type 0
  Tied r free = ⊥
  Tied r (runs q p) = q ≡ r
  Tied r (ended q a) = q ≡ r

  abbrev In : Req → List Req → Type 0
  In r [] = ⊥
  In r (q ∷ l) = (q ≡ r) ⊎ In r l

  in_holder : (r : Req) (x : Slot S) → In r (holder S x) → Tied r x
  in_holder r free i = i
  in_holder r (runs q p) (inl e) = e
  in_holder r (runs q p) (inr i) = absurd i
  in_holder r (ended q a) (inl e) = e
  in_holder r (ended q a) (inr i) = absurd i

  keep_here : {j : ℕ} (d : Dec (j ≡ j)) (r : Req) (l : List Req) → In r (keep S d r l)
  keep_here (yes e) r l = inl refl
  keep_here (no e) r l = absurd (e refl)

  keep_there : {j k : ℕ} (d : Dec (j ≡ k)) (q r : Req) (l : List Req) → In r l → In r (keep S d q l)
  keep_there (yes e) q r l i = inr i
  keep_there (no e) q r l i = i

  passed : (v : ℕ → Slot S) (r : Req) → ((j : ℕ) (q : Req) (p : Prog) → v j ≡ runs q p → Passes S q r)
      → (J : List (Item S)) → ((k : ℕ) (q : Req) → In q (owners S k J) → Tied q (v k)) → Passed S (stands S v J) r
  passed v r f [] t = tt
  passed v r f (off q n ∷ J) t = passed v r f J t
  passed v r f (gone q a ∷ J) t = passed v r f J t
  passed v r f (inside q j ∷ J) t =
      go (v j) refl (t j q (keep_here (ℕ_discrete j j) q (owners S j J)))
      (passed v r f J (λ k o i. t k o (keep_there (ℕ_discrete j k) q o (owners S k J) i)))
    where
      go : (x : Slot S) → v j ≡ x → Tied q x → Passed S (stands S v J) r → Passed S (entry S q x ∷ stands S v J) r
      go free e y ih = absurd y
      go (runs o p) e y ih = (subst (λ z. Passes S z r) y (f j o p e), ih)
      go (ended o a) e y ih = ih

  pub keeps_passed : (s : Store S) (v : View S) (J : List (Item S)) (r : Req) → Keeps S s v J → PassesAll S v r
      → Passed S (stands S v.slot J) r
  keeps_passed s v J r i f = passed v.slot r f J (λ k q y. in_holder q (v.slot k) (subst (λ l. In q l) (i.own k) y))

  -- ---- Slot k is collected

  pub settle_stands : (v u : ℕ → Slot S) (k : ℕ) (a : Ans) (q : Req) → v k ≡ ended q a → ((j : ℕ) → ¬ (j ≡ k) → u j ≡ v j)
      → (J : List (Item S))
      → stands S u (settle S k a J) ≡ stands S v J
  settle_stands v u k a q e h [] = refl
  settle_stands v u k a q e h (off r n ∷ J) = ap (λ l. refused r n ∷ l) (settle_stands v u k a q e h J)
  settle_stands v u k a q e h (gone r b ∷ J) = ap (λ l. done r b ∷ l) (settle_stands v u k a q e h J)
  settle_stands v u k a q e h (inside r j ∷ J) = ap₂ (λ x l. x ∷ l) (go (ℕ_discrete j k)) (settle_stands v u k a q e h J)
    where
      go : (d : Dec (j ≡ k)) → stand S u (settle_one S d a r) ≡ entry S r (v j)
      go (yes f) = sym (ap (entry S r) (ap v f ∙ e))
      go (no f) = ap (entry S r) (h j f)

  pub settle_own : (k : ℕ) (a : Ans) (J : List (Item S)) → owners S k (settle S k a J) ≡ []
  settle_own k a [] = refl
  settle_own k a (off r n ∷ J) = settle_own k a J
  settle_own k a (gone r b ∷ J) = settle_own k a J
  settle_own k a (inside r j ∷ J) = go (ℕ_discrete j k) (settle_own k a J)
    where
      go : (d : Dec (j ≡ k)) → owners S k (settle S k a J) ≡ [] → owners S k (settle_one S d a r ∷ settle S k a J) ≡ []
      go (yes e) h = h
      go (no e) h = keep_no (ℕ_discrete j k) e r (owners S k (settle S k a J)) ∙ h

  pub settle_but : (k : ℕ) (a : Ans) (i : ℕ) → ¬ (i ≡ k) → (J : List (Item S)) → owners S i (settle S k a J) ≡ owners S i J
  settle_but k a i n [] = refl
  settle_but k a i n (off r m ∷ J) = settle_but k a i n J
  settle_but k a i n (gone r b ∷ J) = settle_but k a i n J
  settle_but k a i n (inside r j ∷ J) = go (ℕ_discrete j k) (settle_but k a i n J)
    where
      go : (d : Dec (j ≡ k)) → owners S i (settle S k a J) ≡ owners S i J
          → owners S i (settle_one S d a r ∷ settle S k a J) ≡ keep S (ℕ_discrete j i) r (owners S i J)
      go (yes e) h = h ∙ sym (keep_no (ℕ_discrete j i) (λ f. n (sym f ∙ e)) r (owners S i J))
      go (no e) h = ap (λ l. keep S (ℕ_discrete j i) r l) h
