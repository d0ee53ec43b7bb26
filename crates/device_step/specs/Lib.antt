-- A step on a row by value, as the code makes it.
pub mod Steps
