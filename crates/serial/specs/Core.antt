-- Demand 3 of document 01 without the adapter: requests that hold their records from acceptance to the last burst are serial in
-- the order of acceptance. Here are the system, the journal, the claim, and the invariant that gives it. That every call keeps the
-- invariant is proved in Burst and Submit. Then Slots and Next come from a journal to a machine's calls, Ledger to lists of calls
-- with initialisations and resets in them, and Plain and Told to document 01's book.
-- The theory says more than demand 3 of document 01 asks. What the adapter does not use yet says in its comment for which later request
-- of the project it is there.
--
-- A store gives every record its contents. The book does a request whole: `num` is its verdict, `ans` its answer, `eff` the
-- records afterwards. A machine moves requests burst by burst, several under way at once.
-- A journal lists a run's requests in the order of submission, each as it now stands: refused because of a record's state,
-- done with its answer, or running. Requests refused for any other reason are no part of it.
-- The claim (`Claims`): the book, fed with the journal's done requests alone, in this order, accepts them, gives the same answers
-- and the same records, and at its place in the journal gives each refused request the same verdict.
-- The invariant (`Inv`) adds what is needed of the running requests: each was accepted at its own place in the journal, is still
-- on the way to the book's result there, and every later request of the journal has passed its holds.
use Rattle.std.specs.Prelude.{◌≡◌, List, [], ◌∷◌, ◌++◌}
use Rattle.std.proofs.Common.{subst}

-- two stores that have the same contents in the records that P names
abbrev pub Alike : {Rec Contents : Type 0} → (Rec → Type 0) → (Rec → Contents) → (Rec → Contents) → Type 0
Alike P s t = (X : _) → P X → s X ≡ t X

-- What a machine has to say about its requests.
pub record Sys : Type 1 where
  pub Rec : Type 0
  pub Contents : Type 0
  pub Req : Type 0
  pub Ans : Type 0
  -- The verdict: `accepted`, or why not. A type of its own and not a number, so that two causes may share a number, and so that
  -- a cause that no call ever gives is a case and not a number set aside. Request 2 (three records joined) has such a cause: that the
  -- names which a slot holds are no longer those in the records.
  pub Num : Type 0
  pub accepted : Num
  -- how far a request has come, with what it has gathered; `start` stands in for a slot that the journal names and that is
  -- empty, which never happens (`Keeps` in Slots)
  pub Prog : Type 0
  pub start : Prog
  -- The records that a request's verdict, answer and effect may depend on; those that it holds while it runs; those that it
  -- writes. A reader of three records holds three (request 2). What is seen may exceed what is held: a verdict may depend on records
  -- that others change as soon as the request is accepted. Today all that is seen is held; request 9 (a census) has a command that looks
  -- at every queue pair and holds one completion queue.
  pub Sees : Req → Rec → Type 0
  pub Holds : Req → Rec → Type 0
  pub Writes : Req → Rec → Type 0
  pub writes? : (r : Req) (X : Rec) → Dec (Writes r X)
  pub writes_holds : (r : Req) (X : Rec) → Writes r X → Holds r X
  pub holds_sees : (r : Req) (X : Rec) → Holds r X → Sees r X
  -- the book, and that it looks at nothing but what is seen and changes nothing but what is written
  pub num : Req → (Rec → Contents) → Num
  pub ans : Req → (Rec → Contents) → Ans
  pub eff : Req → (Rec → Contents) → Rec → Contents
  pub num_local : (r : Req) (s t : Rec → Contents) → Alike (Sees r) s t → num r s ≡ num r t
  pub ans_local : (r : Req) (s t : Rec → Contents) → Alike (Sees r) s t → ans r s ≡ ans r t
  pub eff_local : (r : Req) (s t : Rec → Contents) → Alike (Sees r) s t → Alike (Writes r) (eff r s) (eff r t)
  pub eff_frame : (r : Req) (s : Rec → Contents) → Alike (λ X. ¬ Writes r X) (eff r s) s
  -- What else submission has made sure of, for a running p and the new q (as: not both are commands). Only the freer order of request 12
  -- asks, where one sees more than it holds (Finishing); today nothing is made sure of here.
  pub Also : Req → Req → Type 0
  -- Mid r p s w: r was begun in the store s and has come to p, and the store is now w. State it backwards, as "run the bursts
  -- that are left, from w, and the result is the book's for s", and not as "so much of the book's result is there already". Then
  -- moving a burst turns one such statement into the next by computation, and with no burst left it is the book's result itself.
  pub Mid : Req → Prog → (Rec → Contents) → (Rec → Contents) → Type 0
  pub mid_local : (r : Req) (p : Prog) (s t w u : Rec → Contents) → Alike (Sees r) s t → Alike (Holds r) w u → Mid r p s w → Mid r p t u

module _ (S : Sys) where
  open S use {Rec, Contents, Req, Ans, Num, accepted, Prog, Sees, Holds, Writes, num, ans, eff, Also, Mid}

  abbrev pub Store : Type 0
  Store = Rec → Contents

  -- ---- The journal and the claim

  pub data Entry : Type 0 where
    -- only for a refusal because of a record's state; the verdict is its own
    refused : Req → Num → Entry
    done : Req → Ans → Entry
    running : Req → Prog → Entry

  -- in the order of submission
  abbrev pub Journal : Type 0
  Journal = List Entry

  -- the book's records, once it has been fed the journal's done requests and no others
  abbrev pub play : Store → Journal → Store
  play s [] = s
  play s (refused r n ∷ J) = play s J
  play s (done r a ∷ J) = play (eff r s) J
  play s (running r p ∷ J) = play s J

  -- no unfinished request writes X
  abbrev pub Quiet : Rec → Journal → Type 0
  Quiet X [] = Unit {0}
  Quiet X (refused r n ∷ J) = Quiet X J
  Quiet X (done r a ∷ J) = Quiet X J
  Quiet X (running r p ∷ J) = (¬ Writes r X) × Quiet X J

  -- THE CLAIM, for a run that began in the store s and has come to the store w and the journal J
  pub record Claims (s w : Store) (J : Journal) : Type 0 where
    -- the book accepts every done request
    pub accepts : (A B : Journal) (r : Req) (a : Ans) → J ≡ A ++ done r a ∷ B → num r (play s A) ≡ accepted
    -- every record that no unfinished request is writing is the book's
    pub records : (X : Rec) → Quiet X J → w X ≡ play s J X
    -- every done request's answer is the book's
    pub answers : (A B : Journal) (r : Req) (a : Ans) → J ≡ A ++ done r a ∷ B → ans r (play s A) ≡ a
    -- every request refused because of a record's state gets the same verdict from the book
    pub refusals : (A B : Journal) (r : Req) (n : Num) → J ≡ A ++ refused r n ∷ B → num r (play s A) ≡ n

  -- ---- The invariant

  abbrev pub req : Entry → Req
  req (refused r n) = r
  req (done r a) = r
  req (running r p) = r

  -- q was submitted while p was running and passed p's holds: p writes nothing that q sees, q writes nothing that p holds
  pub record Passes (p q : Req) : Type 0 where
    pub out : (X : Rec) → Writes p X → ¬ Sees q X
    pub back : (X : Rec) → Writes q X → ¬ Holds p X
    pub also : Also p q

  -- every request of the journal has passed r's holds
  abbrev pub Clear : Req → Journal → Type 0
  Clear r [] = Unit {0}
  Clear r (e ∷ J) = Passes r (req e) × Clear r J

  -- q passes the holds of every unfinished request of the journal
  abbrev pub Passed : Journal → Req → Type 0
  Passed [] q = Unit {0}
  Passed (refused r n ∷ J) q = Passed J q
  Passed (done r a ∷ J) q = Passed J q
  Passed (running r p ∷ J) q = Passes r q × Passed J q

  -- The store is w. At its place in the journal, in the book's store s there: a refused request has the book's verdict; a done
  -- one is accepted, with the book's answer; a running one is accepted, is under way from s, and all after it passed its holds.
  abbrev pub Good : Store → Store → Journal → Type 0
  Good w s [] = Unit {0}
  Good w s (refused r n ∷ J) = (num r s ≡ n) × Good w s J
  Good w s (done r a ∷ J) = (num r s ≡ accepted) × (ans r s ≡ a) × Good w (eff r s) J
  Good w s (running r p ∷ J) = (num r s ≡ accepted) × Mid r p s w × Clear r J × Good w s J

  pub record Inv (s w : Store) (J : Journal) : Type 0 where
    pub good : Good w s J
    pub recs : (X : Rec) → Quiet X J → w X ≡ play s J X

  -- ---- The invariant gives the claim

  -- what it says of done and refused requests alone
  abbrev pub Plays : Store → Journal → Type 0
  Plays s [] = Unit {0}
  Plays s (refused r n ∷ J) = (num r s ≡ n) × Plays s J
  Plays s (done r a ∷ J) = (num r s ≡ accepted) × (ans r s ≡ a) × Plays (eff r s) J
  Plays s (running r p ∷ J) = Plays s J
