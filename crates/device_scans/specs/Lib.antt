-- What a submission's decision asks of the row, from the device's bytes.
pub mod Passed
pub mod Scans
