-- How an engine request is read.
pub mod Engines
