-- The numbers of records, as they are submitted.
pub mod Numbers
