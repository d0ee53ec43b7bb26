-- The submission of a command on bytes, as the code makes it.
pub mod Decided
