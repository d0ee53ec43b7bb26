-- The rules of document 01 as definitions on values and lists, and the demands as statements about them.
--
-- The rules: the numbers returned, what is lent, and the calls; each definition has its rule above it, with the section of 01.
pub mod Numbers
pub mod Causes
pub mod World
pub mod Names
pub mod Admission
pub mod Commands
pub mod Engines
pub mod Steps
pub mod Collections
pub mod Resets
-- The plain book.
pub mod Whole
pub mod Book
-- What is claimed of them.
pub mod Calls
pub mod Lending
pub mod Demand2
pub mod Demand3
pub mod Running
pub mod Frames
-- What operations know of a world that passed the first tests.
pub mod Laws
