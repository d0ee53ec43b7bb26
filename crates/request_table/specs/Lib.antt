-- The request table of document 01: which records, and whether they are written.
pub mod Records
pub mod Listed
