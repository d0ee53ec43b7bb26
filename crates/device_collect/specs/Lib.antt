-- A collection from a row by value, as the code makes it.
pub mod Collections
