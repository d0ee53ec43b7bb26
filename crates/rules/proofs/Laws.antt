-- The laws that operations stand on: what a world that passed the first tests is like, what reading a submission finds, what a
-- submission decides and what the other calls come to, with all that is known at each end.
pub mod Lent
pub mod Found
pub mod Named
pub mod Decided
pub mod Outcomes
