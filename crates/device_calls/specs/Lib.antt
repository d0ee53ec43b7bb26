-- The exported calls on bytes.
pub mod Calls
pub mod Stays
pub mod Tests
