-- The laws about the definitions of specs/, and the theorems.
pub mod Leaves
pub mod Bursts
pub mod Copies
pub mod Effects
pub mod Store
pub mod Room
pub mod Examples
