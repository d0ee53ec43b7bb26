-- What operations know: of a world that passed the first tests, of names, of what a submission decides and of what the other calls come to.
pub mod Named
pub mod Decided
pub mod Outcomes
