-- The front of a list, replaced by one as long.
pub mod Fronts
