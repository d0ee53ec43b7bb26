-- The theorems about the rules.
pub mod Theorems
-- Calls whose answers are written out by hand from document 01, and computed.
pub mod Scripts
pub mod Order
-- The laws that operations stand on, and the proofs.
pub mod Laws
pub mod Proofs
