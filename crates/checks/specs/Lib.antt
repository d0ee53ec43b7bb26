-- What a request asks of its record.
pub mod Fields
pub mod Verdicts
pub mod Permission
