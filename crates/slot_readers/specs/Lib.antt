-- A slot from its bytes.
pub mod Reading
