-- Bytes in a script.
pub mod Bytes
pub mod Turns
