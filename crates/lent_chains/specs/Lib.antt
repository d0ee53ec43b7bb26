-- Calls of the five operations over a lent row, one after the other, and the demands of 01 about them.
pub mod Links
