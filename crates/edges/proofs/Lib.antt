-- The laws about the definitions of specs/, and the theorems.
pub mod States
pub mod Every
pub mod Lines
pub mod Types
