-- One burst of an engine write.
pub mod Engines
