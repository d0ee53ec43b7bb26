-- A decision applied: what that asks of the memory lent, that every decision of the rules promises it, and what the code leaves.
pub mod Applies
pub mod Calls
