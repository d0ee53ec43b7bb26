-- The laws about the definitions of specs/, and the theorems.
pub mod Touched
pub mod Laws
pub mod Totals
