-- What a script's `lend` lends.
pub mod Lending
