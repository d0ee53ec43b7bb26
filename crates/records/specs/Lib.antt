-- The lent memory: where the records lie in it, and how they are read, judged and written.
pub mod Memory
pub mod Laws
pub mod Calls
