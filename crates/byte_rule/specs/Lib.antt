-- The byte rule of every write.
pub mod Taken
pub mod Bytes
