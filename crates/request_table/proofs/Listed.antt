-- Laws about the definitions of specs/Listed.antt.
use Rattle.std.specs.Prelude.{◌≡◌, refl, Bool, true, false, List, [], ◌∷◌, ℕ, ◌<◌, length, get_or}
use Rattle.std.proofs.Common.{sym, ◌∙◌, ap₂, inl, inr, arith}
use Rattle.std.proofs.Math.Path.{ap}
use Rattle.std.proofs.lemmas.Bool.{false≢true}
use Rattle.words.specs.Choice.{both, either}
use Rattle.words.proofs.Choice.{both_left, both_right}
use Rattle.words.proofs.Tests.{either_false, eqb_swap}
use Rattle.context.specs.Layout.{is_record, same_record, kind_of, kind_code, number_of}
use Rattle.context.proofs.Records.{record_same, same_record_lem}
use Rattle.context.specs.declared.CqNumber.{CqNumber}
use Rattle.context.specs.declared.EqNumber.{EqNumber}
use Rattle.context.specs.declared.Logs.{Logs}
use Rattle.context.specs.declared.QpNumber.{QpNumber}
use Rattle.context.specs.declared.Record.{Record}
use Rattle.context.specs.declared.Record.TheVariants as rec
use Rattle.requests.specs.declared.Command.{Command}
use Rattle.requests.specs.declared.Request.{Request}
use Rattle.requests.specs.declared.Request.TheVariants as request
use Rattle.request_table.specs.declared.Records.{Records}
use Rattle.request_table.specs.declared.Records.TheVariants as records
use Rattle.request_table.specs.Records.{record_of, list_of, holds_of, records_of, no_record, one_of, all_records, psn_holds, numbers_hold}
use Rattle.request_table.specs.Listed.{In, share}

either_second : (p q : Bool) → q ≡ true → either p q ≡ true
either_second true q e = refl
either_second false q e = e

pub in_one_of : (X : Record) (Xs : List Record) → In X Xs → one_of Xs X ≡ true
in_one_of X [] x' = elim x' [ ]
in_one_of X (Y ∷ Ys) (inl e) = rw (record_same Y X e)
in_one_of X (Y ∷ Ys) (inr h) = either_second (same_record Y X) (one_of Ys X) (in_one_of X Ys h)

pub one_of_in : (X : Record) (Xs : List Record) → one_of Xs X ≡ true → In X Xs
one_of_in X [] e = absurd (false≢true e)
one_of_in X (Y ∷ Ys) e = go (same_record Y X) refl (one_of_in X Ys)
  where
    go : (b : Bool) → same_record Y X ≡ b → (one_of Ys X ≡ true → In X Ys) → In X (Y ∷ Ys)
    go true s more = inl (same_record_lem Y X s)
    go false s more = inr (more (rw s at e))

-- all of some records are the store's: so each is
pub all_in : (g : Logs) (X : Record) (Xs : List Record) → all_records g Xs ≡ true → In X Xs → is_record g X ≡ true
all_in g X [] e x'' = elim x'' [ ]
all_in g X (Y ∷ Ys) e (inl f) = rw (← f) (both_left (is_record g Y) (all_records g Ys) e)
all_in g X (Y ∷ Ys) e (inr h) = all_in g X Ys (both_right (is_record g Y) (all_records g Ys) e) h

-- ---- two lists

pub same_symmetric : (X Y : Record) → same_record X Y ≡ same_record Y X
unfolding same_record
same_symmetric X Y = ap₂ both (eqb_swap (kind_code (kind_of X)) (kind_code (kind_of Y))) (eqb_swap (number_of X) (number_of Y))

share_none : (Xs : List Record) → share [] Xs ≡ false
share_none [] = refl
share_none (X ∷ Xs) = share_none Xs

either_across : (a b c d : Bool) → either (either a b) (either c d) ≡ either (either a c) (either b d)
either_across true b c d = refl
either_across false true true d = refl
either_across false true false d = refl
either_across false false c d = refl

share_more : (Y : Record) (Ys Xs : List Record) → share (Y ∷ Ys) Xs ≡ either (one_of Xs Y) (share Ys Xs)
share_more Y Ys [] = refl
share_more Y Ys (X ∷ Xs) =
    ap₂ (λ (a b : Bool). either (either a (one_of Ys X)) b) (same_symmetric Y X) (share_more Y Ys Xs)
    ∙ either_across (same_record X Y) (one_of Ys X) (one_of Xs Y) (share Ys Xs)

pub share_symmetric : (Xs Ys : List Record) → share Xs Ys ≡ share Ys Xs
share_symmetric [] Ys = share_none Ys
share_symmetric (X ∷ Xs) Ys = share_more X Xs Ys ∙ ap (either (one_of Ys X)) (share_symmetric Xs Ys)

-- a record that is in both
pub in_both : (X : Record) (Xs Ys : List Record) → In X Xs → In X Ys → share Ys Xs ≡ true
in_both X [] Ys x'' h = elim x'' [ ]
in_both X (Z ∷ Zs) Ys (inl e) h = rw (e, in_one_of X Ys h)
in_both X (Z ∷ Zs) Ys (inr k) h = either_second (one_of Ys Z) (share Ys Zs) (in_both X Zs Ys k h)

-- ---- the code's value for some records

-- a command's one record
pub command_holds : (q : Request) (d : Command) (X : Record) → q ≡ request.Command d → X ≡ record_of q → records.One X ≡ holds_of q
command_holds q d X e f = ap records.One (f ∙ ap record_of e) ∙ sym (ap holds_of e)

-- the j-th of one, and of three
pub nth_first : (s : Records) (X : Record) (j : ℕ) → s ≡ records.One X → j < length (list_of s) → X ≡ get_or (list_of s) j no_record
nth_first s X j e h =
    let l : j < length (list_of (records.One X)) = rw e at h in
    let k : j ≡ 0 = omega arith in rw (e, k)

pub third_of : (n : QpNumber) (c : CqNumber) (e : EqNumber) (j : ℕ) → j < 3 → ¬ (j ≡ 0) → ¬ (j ≡ 1)
    → rec.Eq e ≡ get_or (list_of (records.Three n c e)) j no_record
third_of n c e j h x y = let k : j ≡ 2 = omega arith in rw k

-- the code's tests of the records in turn
pub one_told : (r b : Bool) → r ≡ b → r ≡ either b false
one_told r b e = e ∙ sym (either_false b)

pub all_told : (r b : Bool) → r ≡ b → r ≡ both b true
all_told r true e = e
all_told r false e = e

-- a request's records that the store has not all, and those that it has
module _ (g : Logs) (q : Request) (s : Records) (b : Bool) (e : s ≡ holds_of q) (f : b ≡ all_records g (list_of s)) where
  all_of : all_records g (records_of q) ≡ b
  all_of = sym (f ∙ ap (λ (x : Records). all_records g (list_of x)) e)

  pub numbers_fail : b ≡ false → false ≡ numbers_hold g q
  unfolding numbers_hold
  numbers_fail h = ap (λ (x : Bool). both x (psn_holds q)) (sym (all_of ∙ h))

  pub numbers_told : (r : Bool) → b ≡ true → r ≡ psn_holds q → r ≡ numbers_hold g q
  unfolding numbers_hold
  numbers_told r h p = p ∙ ap (λ (x : Bool). both x (psn_holds q)) (sym (all_of ∙ h))
