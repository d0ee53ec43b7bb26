-- One burst as the code moves it, and what it makes of a step.
pub mod Moves
pub mod Steps
