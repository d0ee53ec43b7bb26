-- The command register on lists of bytes: the definitions that the contracts cite, and the round trip both ways.
pub mod Register
