-- A burst: a part of a record that is changed or copied at once, and the room that it is copied to.
pub mod Moves
pub mod Bursts
pub mod Copies
pub mod Room
