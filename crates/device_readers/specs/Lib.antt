-- The state and the row from their bytes.
pub mod Reading
