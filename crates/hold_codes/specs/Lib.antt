-- What a running request holds, as numbers.
pub mod Codes
