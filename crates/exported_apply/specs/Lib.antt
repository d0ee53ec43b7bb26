-- A decision applied to bytes, as the code does it.
pub mod Applied
