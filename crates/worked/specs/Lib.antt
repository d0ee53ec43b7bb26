-- The rules at work, by computation: document 01's examples P1 to P12, and lists of calls with their answers, the memory that they leave,
-- and what demand 3 says of them. A crate of its own, so that a wrong model of a rule is tried without them.
pub mod Examples
pub mod Worked
pub mod Closing
pub mod Types
