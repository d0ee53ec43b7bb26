-- THE THEOREM: every event keeps what `Keeps` says (`next`), a machine with no slot occupied begins so (`begin`), and the claim
-- of Core follows (`keeps_claims`). So a machine each of whose calls is an event is serial after every list of calls.
use Rattle.std.specs.Prelude.{◌≡◌, refl, List, [], ◌∷◌, ◌++◌, ℕ}
use Rattle.std.proofs.Common.{sym, ◌∙◌, ap, ap₂, subst, subst₂, append-nil}
use Rattle.std.proofs.Math.Path.{fun_ext}
use Rattle.std.proofs.Math.Decide.{ℕ_discrete}
use Rattle.serial.specs.Core.{Sys, Store, Inv, Claims}
use Rattle.serial.proofs.Core.{claims}
use Rattle.serial.proofs.Burst.{step_inv, last_inv}
use Rattle.serial.proofs.Submit.{refuse_inv, accept_inv, instant_inv}
use Rattle.serial.specs.Order.{Done}
use Rattle.serial.specs.Slots.{Slot, free, View, Note, Item, off, gone, inside, settle, log, entry, stands, But}
use Rattle.serial.specs.Slots.{Event, idle, turn, take, once, step, last, collect, holder, owners, Keeps}
use Rattle.serial.proofs.Items.{keep_yes, keep_no, owners_append, stands_append, stands_but, own_but, Located}
use Rattle.serial.proofs.Items.{locate, around, keeps_passed, settle_stands, settle_own, settle_but}

module _ (S : Sys) where
  open S use {Req}

  pub begin : (v : View S) → ((j : ℕ) → v.slot j ≡ free) → Keeps S v.look v []
  begin v h = record { inv = record { good = tt; recs = λ X q. refl }; own = λ k. ap (holder S) (sym (h k)) }

  pub keeps_claims : (s : Store S) (v : View S) (J : List (Item S)) → Keeps S s v J → Claims S s v.look (stands S v.slot J)
  keeps_claims s v J i = claims S s v.look (stands S v.slot J) i.inv

  -- the journal around the request r of slot k, once that slot shows x
  pub with_slot : (v u : View S) (J : List (Item S)) (k : ℕ) (r : Req) (c : Located S k r J) → But S k v u → {x : Slot S} → u.slot k ≡ x
      → stands S u.slot J ≡ stands S v.slot c.before ++ entry S r x ∷ stands S v.slot c.after
  with_slot v u J k r c h e =
      around S v u J k r c h ∙ ap (λ y. stands S v.slot c.before ++ entry S r y ∷ stands S v.slot c.after) e

  -- a new item that is in no slot
  own_more : (s : Store S) (v u : View S) (J : List (Item S)) (x : Item S) → Keeps S s v J → ((j : ℕ) → u.slot j ≡ v.slot j)
      → ((k : ℕ) → owners S k (x ∷ []) ≡ []) → (k : ℕ) → owners S k (J ++ x ∷ []) ≡ holder S (u.slot k)
  own_more s v u J x i h n k =
      owners_append S k J (x ∷ []) ∙ ap (λ l. owners S k J ++ l) (n k) ∙ append-nil (owners S k J) ∙ i.own k ∙ ap (holder S) (sym (h k))

  pub next : (s : Store S) (v u : View S) (J : List (Item S)) {n : Note S} {f : List (Done S)} → Keeps S s v J → Event S v u n f
      → Keeps S s u (log S n J)
  next s v u J i (idle c) = record {
    inv = subst₂ (λ l f. Inv S s l (stands S f J)) (sym (fun_ext c.looks)) (sym (fun_ext c.slots)) i.inv;
    own = λ k. i.own k ∙ ap (holder S) (sym (c.slots k));
  }
  next s v u J i (turn {r = r} {n = n} c f e) = record {
    inv = subst₂ (λ l f. Inv S s l (stands S f (J ++ off r n ∷ []))) (sym (fun_ext c.looks)) (sym (fun_ext c.slots))
        (subst (λ K. Inv S s v.look K) (sym (stands_append S v.slot J (off r n ∷ [])))
        (refuse_inv S s v.look (stands S v.slot J) i.inv r (keeps_passed S s v J r i f) n e));
    own = own_more s v u J (off r n) i c.slots (λ k. refl);
  }
  next s v u J i (take {r = r} {k = k} p l e e' h f n m) = record {
    inv = subst₂ (λ l K. Inv S s l K) (sym (fun_ext l))
        (sym (stands_append S u.slot J (inside r k ∷ [])
        ∙ ap₂ (λ a x. a ++ entry S r x ∷ []) (stands_but S v.slot u.slot k J h (i.own k ∙ ap (holder S) e)) e'))
        (accept_inv S s v.look (stands S v.slot J) i.inv r (keeps_passed S s v J r i f) p n m);
    own = own_but S s v u J (J ++ inside r k ∷ []) k i h
        (owners_append S k J (inside r k ∷ []) ∙ ap₂ ◌++◌ (i.own k ∙ ap (holder S) e) (keep_yes S (ℕ_discrete k k) refl r [])
        ∙ ap (holder S) (sym e'))
        (λ j y. owners_append S j J (inside r k ∷ []) ∙ ap (λ l. owners S j J ++ l) (keep_no S (ℕ_discrete k j) (λ z. y (sym z)) r [])
        ∙ append-nil (owners S j J));
  }
  next s v u J i (once {r = r} {a = a} l c f n e) = record {
    inv = subst (λ g. Inv S s u.look (stands S g (J ++ gone r a ∷ []))) (sym (fun_ext c))
        (subst (λ K. Inv S s u.look K) (sym (stands_append S v.slot J (gone r a ∷ [])))
        (instant_inv S s v.look (stands S v.slot J) i.inv r (keeps_passed S s v J r i f) u.look a n e l));
    own = own_more s v u J (gone r a) i c (λ k. refl);
  }
  next s v u J i (step r k p p' e e' h w m) =
      let c : Located S k r J = locate S k r J (i.own k ∙ ap (holder S) e) in
      record {
        inv = subst (λ K. Inv S s u.look K) (sym (with_slot v u J k r c h e'))
            (step_inv S r p (stands S v.slot c.after) v.look u.look w p' m s (stands S v.slot c.before)
            (subst (λ K. Inv S s v.look K) (with_slot v v J k r c (λ j y. refl) e) i.inv));
        own = own_but S s v u J J k i h (i.own k ∙ ap (holder S) e ∙ ap (holder S) (sym e')) (λ j y. refl);
      }
  next s v u J i (last r k p a e e' h w m) =
      let c : Located S k r J = locate S k r J (i.own k ∙ ap (holder S) e) in
      record {
        inv = subst (λ K. Inv S s u.look K) (sym (with_slot v u J k r c h e'))
            (last_inv S r p (stands S v.slot c.after) v.look u.look w a m s (stands S v.slot c.before)
            (subst (λ K. Inv S s v.look K) (with_slot v v J k r c (λ j y. refl) e) i.inv));
        own = own_but S s v u J J k i h (i.own k ∙ ap (holder S) e ∙ ap (holder S) (sym e')) (λ j y. refl);
      }
  next s v u J i (collect r {k = k} {a = a} e e' h l) = record {
    inv = subst₂ (λ g K. Inv S s g K) (sym (fun_ext l)) (sym (settle_stands S v.slot u.slot k a r e h J)) i.inv;
    own = own_but S s v u J (settle S k a J) k i h (settle_own S k a J ∙ ap (holder S) (sym e')) (λ j y. settle_but S k a j y J);
  }
