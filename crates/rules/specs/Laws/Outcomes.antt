-- What a step, a collection and a reset come to, once for every claim about them: a refusal, or what is done.
use Rattle.std.specs.Prelude.{◌≡◌, true, false, List, ℕ, ltb, length}
use Rattle.requests.specs.declared.Request.{Request}
use Rattle.answers.specs.Answers.{answer_size}
use Rattle.slots.specs.declared.Status.TheVariants.{Running, Finished}
use Rattle.rules.specs.World.{World, status_at, bad_lent, bad_state}
use Rattle.rules.specs.Collections.{collected}

-- ---- a step

-- what is known of a request that a step moves
pub record Stepping (w : World) (k : ℕ) (q : Request) (m : ℕ) : Type 0 where
  pub lent : bad_lent w ≡ false
  pub possible : bad_state w ≡ false
  pub opened : w.hca.«open» ≡ true
  pub now : status_at k w.row ≡ Running m q

-- ---- a collection

-- what is known of a request that is collected
pub record Collecting (w : World) (k : ℕ) (out : List ℕ) (q : Request) : Type 0 where
  pub lent : bad_lent w ≡ false
  pub possible : bad_state w ≡ false
  pub moves : ℕ
  pub now : status_at k w.row ≡ Finished moves q
  pub enough : ltb (length out) (answer_size q) ≡ false
