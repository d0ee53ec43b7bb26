-- A slot by value and its moves.
pub mod Slots
pub mod Advance
