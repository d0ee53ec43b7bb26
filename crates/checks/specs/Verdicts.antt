-- What a record answers to a request: permitted, or denied for a cause that lies in the record.
use Rattle.std.specs.Prelude.{ℕ, Result, Ok, Err}
use Rattle.checks.specs.declared.Denial.{Denial}
use Rattle.checks.specs.declared.Denial.TheVariants as denial
use Rattle.edges.specs.declared.EdgeDenial.{EdgeDenial}
use Rattle.edges.specs.declared.EdgeDenial.TheVariants as edgeDenial

-- The number of each cause: an edge that is not permitted and a wrong owner share one (01, Numbers returned, 0x85); an engine write that
-- is permitted for another service type has its own (02, wish 5); a name in the record that is out of range has that of an index out of
-- range (02, wish 2).
abbrev pub denial_number : Denial → ℕ
denial_number denial.Edge = 0x85
denial_number denial.ServiceType = 0x88
denial_number denial.Owner = 0x85
denial_number denial.Name = 3

-- The number of each verdict: 0 where the record permits the request, and else the cause's (01, Numbers returned).
abbrev pub verdict_number : Result (Unit {0}) Denial → ℕ
verdict_number (Ok tt) = 0
verdict_number (Err d) = denial_number d

-- The denial of an edge, as a record's.
abbrev pub denial_by : EdgeDenial → Denial
denial_by edgeDenial.NotPermitted = denial.Edge
denial_by edgeDenial.NotForType = denial.ServiceType

-- The decision on an edge, as a record's verdict.
abbrev pub by_edge : Result (Unit {0}) EdgeDenial → Result (Unit {0}) Denial
by_edge (Ok tt) = Ok tt
by_edge (Err d) = Err (denial_by d)
