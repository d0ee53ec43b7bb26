-- A row that has not eight slots.
pub mod Tested
pub mod NotEight
