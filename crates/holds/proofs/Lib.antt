-- The laws about the definitions of specs/, and the theorems.
pub mod Clashes
pub mod Laws
