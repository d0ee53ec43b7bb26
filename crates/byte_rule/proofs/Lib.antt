-- The laws about the definitions of specs/, and the theorems.
pub mod Needed
pub mod States
pub mod Front
pub mod Ends
