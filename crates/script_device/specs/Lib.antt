-- The slot that a line hands in.
pub mod Slots
pub mod Laws
