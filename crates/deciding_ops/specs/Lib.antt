-- What the stages of a command's decision ask for.
pub mod Ready
