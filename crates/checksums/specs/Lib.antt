-- Adler-32.
pub mod Adler
pub mod Turns
