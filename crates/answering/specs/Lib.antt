-- The answer of a slot's request as the code writes it, and what it makes of a collection.
pub mod Answered
pub mod Collections
