-- Requests handed in with a slot.
pub mod Requests
