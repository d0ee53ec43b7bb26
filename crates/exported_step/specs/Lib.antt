-- A step on bytes, as the code makes it.
pub mod Ready
pub mod Whole
