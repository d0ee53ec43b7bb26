-- A choice between two values by a test, and the rules by which `search cases` answers a return of a
-- function whose definition is a chain of choices.
use Rattle.std.specs.Prelude.{Bool, true, false, ℕ, leb}

-- the first value where the test holds, and else the second
abbrev pub pick : {A : Type 0} → Bool → A → A → A
pick true a b = a
pick false a b = b

-- both tests hold; one of them holds
abbrev pub both : Bool → Bool → Bool
both p q = pick p q false

abbrev pub either : Bool → Bool → Bool
either p q = pick p true q

-- i is in the range from `from` to `last`, both ends included, as 01 gives its ranges
abbrev pub within : ℕ → ℕ → ℕ → Bool
within from last i = both (leb from i) (leb i last)
