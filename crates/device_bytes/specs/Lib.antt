-- The bytes of the C interface's device.
pub mod Decoding
pub mod Encoding
