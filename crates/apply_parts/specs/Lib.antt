-- What opening the store and filling a part of the room ask for, and what they leave.
pub mod Parts
