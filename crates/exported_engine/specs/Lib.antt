-- The submission of an engine request on bytes, as the code makes it.
pub mod Asked
pub mod Decided
