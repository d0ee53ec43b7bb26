-- The numbers of a line.
pub mod Lines
pub mod Turns
