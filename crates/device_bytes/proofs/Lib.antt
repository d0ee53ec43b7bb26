-- The laws about the definitions of specs/, and the theorems.
pub mod Walks
pub mod RoundTrip
pub mod Rewritten
pub mod Headers
pub mod Canonical
