-- What a request is.
pub mod Psns
