-- The laws about the definitions of specs/, and the theorems.
pub mod Scans
pub mod Every
pub mod Laws
