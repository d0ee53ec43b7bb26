-- The state that a script's line hands in. Numbers that are not in their ranges are wrong.
use Rattle.std.specs.Prelude.{List, ℕ, eqb, ltb, Option, Some, None}
use Rattle.words.specs.Choice.{pick}
use Rattle.script_lines.specs.Lines.{nth}
use Rattle.context.specs.declared.Logs.{Logs}
use Rattle.possible.specs.declared.Hca.{Hca}

-- four logarithms, each a byte
abbrev pub logs_of : (qps cqs eqs mpts : ℕ) → Option Logs
logs_of qps cqs eqs mpts =
    pick (ltb 255 qps) None
    (pick (ltb 255 cqs) None
    (pick (ltb 255 eqs) None
    (pick (ltb 255 mpts) None
    (Some (record { qps = qps; cqs = cqs; eqs = eqs; mpts = mpts })))))

abbrev pub with_logs : Option Logs → (open' len : ℕ) → Option Hca
with_logs (Some g) o len = Some (record { «open» = eqb o 1; logs = g; store_len = len })
with_logs None o len = None

-- `state OPEN LQ LC LE LM LEN`: OPEN is 0 or 1
unfoldable pub state_in : Option (List ℕ) → Option Hca
state_in (Some n) =
    pick (ltb 1 (nth n 0)) None (with_logs (logs_of (nth n 1) (nth n 2) (nth n 3) (nth n 4)) (nth n 0) (nth n 5))
state_in None = None
