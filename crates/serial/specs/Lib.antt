-- Requests that hold their records from acceptance to the last burst are serial in the order of acceptance: the theory, without any
-- adapter, and a small example.
pub mod Core
pub mod Burst
pub mod Order
pub mod Slots
pub mod Plain
pub mod Example
