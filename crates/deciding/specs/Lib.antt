-- What the stages of a decision ask for, and that the tests before them give it.
pub mod Ready
