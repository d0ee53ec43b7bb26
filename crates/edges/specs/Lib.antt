-- The states of a queue pair and the moves between them.
pub mod States
pub mod Edges
pub mod Every
pub mod Lines
pub mod Types
