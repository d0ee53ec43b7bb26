-- Numbers in a script.
pub mod Numbers
pub mod Turns
