-- Bytes and words on lists: the definitions that the crates above cite, and their laws.
pub mod Choice
pub mod Parts
pub mod Words
pub mod Maps
