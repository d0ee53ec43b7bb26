-- The order of finishing is one of the freer orders, in a system where requests that may be under way together do not meet.
-- That is the case where each holds all that it sees; where one sees more, `Also` has to exclude the pairs that would meet.
--
-- Request 12 asks for it: the order of finishing is to give the same records and answers. The adapter's system meets the condition today,
-- since all that is seen is held; with the command of request 9 that sees every queue pair, `Also` is needed.
use Rattle.std.specs.Prelude.{◌≡◌, refl, List, [], ◌∷◌, ◌++◌}
use Rattle.std.proofs.Common.{sym, ◌∙◌, ap, ap₂, subst, subst₂, append-nil}
use Rattle.std.proofs.Math.Path.{fun_ext}
use Rattle.serial.specs.Core.{Sys, Entry, refused, done, running, Store, Journal, Passes, Clear, Inv}
use Rattle.serial.proofs.Burst.{good_clear}
use Rattle.serial.specs.Order.{Done, finished, finished_append}
use Rattle.serial.specs.Slots.{View, Note, Item, off, gone, inside, settle, log, entry, stands}
use Rattle.serial.specs.Slots.{Event, idle, turn, take, once, step, last, collect, holder, Keeps}
use Rattle.serial.proofs.Items.{stands_append, stands_but, Located, locate, settle_stands}
use Rattle.serial.proofs.Next.{with_slot}
use Rattle.serial.proofs.Freer.{Apart, AllLoose, Reorder, reorder_last}

module _ (S : Sys) (passes-apart : (p q : S.Req) → Passes S p q → Apart S p q) where
  open S use {Req, Ans, Prog}

  clear_apart : (r : Req) (B : Journal S) → Clear S r B → AllLoose S (Apart S) r (finished S B)
  clear_apart r [] c = tt
  clear_apart r (refused q n ∷ B) c = clear_apart r B c.1
  clear_apart r (done q a ∷ B) c = (passes-apart r q c.0, clear_apart r B c.1)
  clear_apart r (running q p ∷ B) c = clear_apart r B c.1

  -- r, unfinished until now, finishes: it comes last in the order of finishing, and stays where it was in that of acceptance
  order_last : (r : Req) (p : Prog) (a : Ans) (A B : Journal S) (K : List (Done S)) → Clear S r B
      → Reorder S (Apart S) (finished S (A ++ running r p ∷ B)) K
      → Reorder S (Apart S) (finished S (A ++ done r a ∷ B)) (K ++ record { what = r; gave = a } ∷ [])
  order_last r p a A B K c o =
      subst (λ l. Reorder S (Apart S) l (K ++ record { what = r; gave = a } ∷ [])) (sym (finished_append S A (done r a ∷ B)))
      (reorder_last S (Apart S) (record { what = r; gave = a }) (finished S A) (finished S B) K
      (subst (λ l. Reorder S (Apart S) l K) (finished_append S A (running r p ∷ B)) o) (clear_apart r B c))

  order_once : (r : Req) (a : Ans) (J : Journal S) (K : List (Done S))
      → Reorder S (Apart S) (finished S J) K → Reorder S (Apart S) (finished S (J ++ done r a ∷ []))
      (K ++ record { what = r; gave = a } ∷ [])
  order_once r a J K o =
      subst (λ l. Reorder S (Apart S) l (K ++ record { what = r; gave = a } ∷ [])) (sym (finished_append S J (done r a ∷ [])))
      (reorder_last S (Apart S) (record { what = r; gave = a }) (finished S J) [] K
      (subst (λ l. Reorder S (Apart S) l K) (sym (append-nil (finished S J))) o) tt)

  unmoved : (A B : Journal S) (F : List (Done S)) → finished S B ≡ finished S A → Reorder S (Apart S) (finished S A) F
      → Reorder S (Apart S) (finished S B) (F ++ [])
  unmoved A B F e o = subst₂ (λ a b. Reorder S (Apart S) a b) (sym e) (sym (append-nil F)) o

  more : (A : Journal S) (e : Entry S) → finished S (e ∷ []) ≡ [] → finished S (A ++ e ∷ []) ≡ finished S A
  more A e h = finished_append S A (e ∷ []) ∙ ap (λ l. finished S A ++ l) h ∙ append-nil (finished S A)

  -- one call: F are the requests finished so far, in the order of finishing, and f those that the call finishes
  pub next_order : (s : Store S) (v u : View S) (J : List (Item S)) {n : Note S} {f : List (Done S)} (F : List (Done S)) → Keeps S s v J
      → Event S v u n f
      → Reorder S (Apart S) (finished S (stands S v.slot J)) F
      → Reorder S (Apart S) (finished S (stands S u.slot (log S n J))) (F ++ f)
  next_order s v u J F i (idle c) o =
      unmoved (stands S v.slot J) (stands S u.slot J) F (ap (λ g. finished S (stands S g J)) (fun_ext c.slots)) o
  next_order s v u J F i (turn {r = r} {n = n} c f e) o =
      unmoved (stands S v.slot J) (stands S u.slot (J ++ off r n ∷ [])) F
      (ap (λ g. finished S (stands S g (J ++ off r n ∷ []))) (fun_ext c.slots)
      ∙ ap (finished S) (stands_append S v.slot J (off r n ∷ []))
      ∙ more (stands S v.slot J) (refused r n) refl) o
  next_order s v u J F i (take {r = r} {k = k} p l e e' h f n m) o =
      unmoved (stands S v.slot J) (stands S u.slot (J ++ inside r k ∷ [])) F
      (ap (finished S) (stands_append S u.slot J (inside r k ∷ [])
      ∙ ap₂ (λ a x. a ++ entry S r x ∷ []) (stands_but S v.slot u.slot k J h (i.own k ∙ ap (holder S) e)) e')
      ∙ more (stands S v.slot J) (running r p) refl) o
  next_order s v u J F i (once {r = r} {a = a} l c f n e) o =
      subst (λ x. Reorder S (Apart S) x (F ++ record { what = r; gave = a } ∷ []))
      (sym (ap (λ g. finished S (stands S g (J ++ gone r a ∷ []))) (fun_ext c) ∙ ap (finished S)
      (stands_append S v.slot J (gone r a ∷ []))))
      (order_once r a (stands S v.slot J) F o)
  next_order s v u J F i (step r k p p' e e' h w m) o =
      let c : Located S k r J = locate S k r J (i.own k ∙ ap (holder S) e) in
      let A : Journal S = stands S v.slot c.before in
      let B : Journal S = stands S v.slot c.after in
      unmoved (stands S v.slot J) (stands S u.slot J) F
      (ap (finished S) (with_slot S v u J k r c h e') ∙ finished_append S A (running r p' ∷ B)
      ∙ sym (ap (finished S) (with_slot S v v J k r c (λ j y. refl) e) ∙ finished_append S A (running r p ∷ B))) o
  next_order s v u J F i (last r k p a e e' h w m) o =
      let c : Located S k r J = locate S k r J (i.own k ∙ ap (holder S) e) in
      let A : Journal S = stands S v.slot c.before in
      let B : Journal S = stands S v.slot c.after in
      let was : stands S v.slot J ≡ A ++ running r p ∷ B = with_slot S v v J k r c (λ j y. refl) e in
      subst (λ K. Reorder S (Apart S) (finished S K) (F ++ record { what = r; gave = a } ∷ [])) (sym (with_slot S v u J k r c h e'))
      (order_last r p a A B F
      (good_clear S v.look s A r p B (subst (λ K. Inv S s v.look K) was i.inv).good)
      (subst (λ K. Reorder S (Apart S) (finished S K) F) was o))
  next_order s v u J F i (collect r {k = k} {a = a} e e' h l) o =
      unmoved (stands S v.slot J) (stands S u.slot (settle S k a J)) F
      (ap (finished S) (settle_stands S v.slot u.slot k a r e h J)) o
