-- A slot as its bytes.
pub mod Writing
