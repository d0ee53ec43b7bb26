-- The laws about the definitions of specs/, and the theorems.
pub mod Accepted
pub mod Decodes
pub mod Stays
pub mod Tests
