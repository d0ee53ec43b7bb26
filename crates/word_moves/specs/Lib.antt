-- The words of one burst that are copied from a mailbox image.
pub mod Places
pub mod Maps
pub mod Copies
pub mod Steps
