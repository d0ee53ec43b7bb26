-- The table of edges, and that it has exactly the permitted ones.
pub mod Table
pub mod Exact
