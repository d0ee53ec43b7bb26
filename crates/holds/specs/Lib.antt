-- Holds.
pub mod Holds
