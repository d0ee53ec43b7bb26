-- The burst table of document 01, and the sizes that go with it.
pub mod Sizes
pub mod Bursts
