-- The number of an answer is that of each call.
pub mod Each
