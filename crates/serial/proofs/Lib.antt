-- The laws about the definitions of specs/, and the theorems.
pub mod Core
pub mod Burst
pub mod Plain
pub mod Submit
pub mod Items
pub mod Next
pub mod Ledger
pub mod Told
pub mod Standing
pub mod Freer
pub mod Finishing
pub mod AnyOrder
pub mod ExampleRun
