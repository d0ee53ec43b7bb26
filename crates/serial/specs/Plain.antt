-- From the system's book to a plain book of another make, and the claim for that book.
--
-- The requests of the system's book are what a slot holds, and its records are what the machine shows. The plain book has a state
-- of its own (`Book`) and may be fed with less: a slot's request may name records that submission found named in other records,
-- where the plain book is given the arguments alone (`asks`) and finds the names itself. That is so of request 2 (three records joined).
use Rattle.std.specs.Prelude.{◌≡◌, List, [], ◌∷◌, ◌++◌}
use Rattle.serial.specs.Core.{Sys, Store, Journal, refused, Quiet}
use Rattle.serial.specs.Order.{Done, finished}

pub record Plain (S : Sys) : Type 1 where
  pub Book : Type 0
  pub Ask : Type 0
  pub asks : S.Req → Ask
  pub number : Ask → Book → S.Num
  pub reply : Ask → Book → S.Ans
  pub after : Ask → Book → Book
  -- the records that a book has
  pub shows : Book → S.Rec → S.Contents
  -- the verdicts that a submission can give; not among them is "the request does not belong to these records", which request 2 has
  pub Given : S.Num → Type 0
  -- over the same records: what the system's book accepts, the plain book accepts, with the same answer and the same effect
  pub takes : (r : S.Req) (b : Book) (s : S.Rec → S.Contents) → ((X : S.Rec) → shows b X ≡ s X) → S.num r s ≡ S.accepted
      → (number (asks r) b ≡ S.accepted) × (reply (asks r) b ≡ S.ans r s) × ((X : S.Rec) → shows (after (asks r) b) X ≡ S.eff r s X)
  -- and what it turns away, the plain book turns away, with the same verdict
  pub turns : (r : S.Req) (b : Book) (s : S.Rec → S.Contents) → ((X : S.Rec) → shows b X ≡ s X) → Given (S.num r s)
      → number (asks r) b ≡ S.num r s

module _ (S : Sys) (P : Plain S) where
  open S use {Rec, Req, Num, accepted}
  open P use {Book, asks, number, reply, after, shows, Given}

  -- the book, given these requests one at a time, each whole
  abbrev pub given : Book → List (Done S) → Book
  given b [] = b
  given b (d ∷ L) = given (after (asks d.what) b) L

  -- THE CLAIM, for a run that began with the book b and has come to the store w and the journal J
  pub record Demand (b : Book) (w : Store S) (J : Journal S) : Type 0 where
    -- the book, given the finished requests in the order of acceptance, accepts them all
    pub accepts : (A B : List (Done S)) (d : Done S) → finished S J ≡ A ++ d ∷ B → number (asks d.what) (given b A) ≡ accepted
    -- every record that no unfinished request is writing is the book's
    pub records : (X : Rec) → Quiet S X J → w X ≡ shows (given b (finished S J)) X
    -- every finished request's answer is the book's
    pub answers : (A B : List (Done S)) (d : Done S) → finished S J ≡ A ++ d ∷ B → reply (asks d.what) (given b A) ≡ d.gave
    -- every request refused because of a record's state gets the same verdict from the book, once that has been given the
    -- finished requests accepted before it and no others
    pub refusals : (A B : Journal S) (r : Req) (n : Num) → J ≡ A ++ refused r n ∷ B → Given n → number (asks r) (given b (finished S A)) ≡ n
