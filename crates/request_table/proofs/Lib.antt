-- The laws about the definitions of specs/, and the theorems.
pub mod Listed
pub mod Sizes
pub mod Laws
