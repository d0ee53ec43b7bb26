-- One burst of an edge.
pub mod Edges
