-- The laws about the definitions of specs/, and the theorems.
pub mod Fields
pub mod PermissionLaws
