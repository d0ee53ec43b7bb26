-- What the first tests of a command's decision come to.
pub mod Ready
