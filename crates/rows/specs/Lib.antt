-- The row of eight slots.
pub mod Rows
