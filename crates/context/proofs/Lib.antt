-- The laws about the definitions of specs/, and the theorems.
pub mod Counts
pub mod Tables
pub mod Records
