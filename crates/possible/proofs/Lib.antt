-- The laws about the definitions of specs/, and the theorems.
pub mod Pairs
pub mod Turns
pub mod Rows
pub mod Laws
