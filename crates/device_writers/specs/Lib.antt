-- A moved slot and the header as their bytes.
pub mod Writing
