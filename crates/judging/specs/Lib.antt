-- Whether the C interface's device is in an impossible state.
pub mod Judging
pub mod Sound
pub mod Writers
pub mod Scan
pub mod Device
