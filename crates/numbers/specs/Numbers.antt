-- The number of a record, checked against the count of its own kind (01, The context store).
use Rattle.std.specs.Prelude.{ℕ, ltb, Option, Some, None}
use Rattle.words.specs.Choice.{pick}
use Rattle.context.specs.Layout.{count_of}
use Rattle.context.specs.declared.Kind.{Kind}
use Rattle.context.specs.declared.Kind.TheVariants as kind
use Rattle.context.specs.declared.Logs.{Logs}
use Rattle.context.specs.declared.CqNumber.{CqNumber}
use Rattle.context.specs.declared.EqNumber.{EqNumber}
use Rattle.context.specs.declared.MptNumber.{MptNumber}
use Rattle.context.specs.declared.QpNumber.{QpNumber}

-- What a number of kind k gets: one thing if it is below the count of its kind, another if it is not. Each kind asks its own
-- count, so that no kind's number is taken for another's (01, The context store).
abbrev pub number_rows : {A : Type 0} → Logs → Kind → ℕ → A → A → A
number_rows g k n found out_of_range_lem = pick (ltb n (count_of g k)) found out_of_range_lem

abbrev pub qp_of : Logs → ℕ → Option QpNumber
qp_of g n = number_rows g kind.Qp n (Some (record { 0 = n })) None

abbrev pub cq_of : Logs → ℕ → Option CqNumber
cq_of g n = number_rows g kind.Cq n (Some (record { 0 = n })) None

abbrev pub eq_of : Logs → ℕ → Option EqNumber
eq_of g n = number_rows g kind.Eq n (Some (record { 0 = n })) None

abbrev pub mpt_of : Logs → ℕ → Option MptNumber
mpt_of g n = number_rows g kind.Mpt n (Some (record { 0 = n })) None

-- 01's number for each answer: 3 is that of a wrong index (01, Numbers returned).
abbrev pub qp_found_number : Option QpNumber → ℕ
qp_found_number (Some n) = 0
qp_found_number None = 3

abbrev pub cq_found_number : Option CqNumber → ℕ
cq_found_number (Some n) = 0
cq_found_number None = 3

abbrev pub eq_found_number : Option EqNumber → ℕ
eq_found_number (Some n) = 0
eq_found_number None = 3

abbrev pub mpt_found_number : Option MptNumber → ℕ
mpt_found_number (Some n) = 0
mpt_found_number None = 3
