-- The state that a line hands in.
pub mod States
pub mod Laws
