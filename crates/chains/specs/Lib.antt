-- Calls of the five operations, one after the other, and the demands of 01 about them: what an operation ensures is all that is known
-- of a call of it.
--
-- What is claimed.
pub mod Links
pub mod Claims

-- The proofs.
