-- Calls of the exported functions, one after the other, and the demands of 01 about them.
pub mod Links
