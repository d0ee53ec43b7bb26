-- The laws about the definitions of specs/, and the theorems.
pub mod Choice
pub mod Tests
pub mod Parts
pub mod Words
pub mod Maps
pub mod Tails
pub mod Leaves
