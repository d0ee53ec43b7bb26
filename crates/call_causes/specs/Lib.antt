-- The causes of refusals.
pub mod Causes
