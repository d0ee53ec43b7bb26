-- The numbers of a request.
pub mod Numbers
