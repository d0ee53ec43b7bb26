-- The laws about the definitions of specs/, and the theorems.
pub mod Fields
pub mod Word18
pub mod WordList
pub mod Writing
pub mod Within
pub mod RoundTrip
