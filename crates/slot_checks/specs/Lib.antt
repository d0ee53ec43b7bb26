-- Whether a slot that is handed in is impossible by itself.
pub mod SlotChecks
