-- How a command is read.
pub mod Commands
