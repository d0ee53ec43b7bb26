-- A reset on bytes, as the code makes it.
pub mod Resets
