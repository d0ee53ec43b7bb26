-- What a request asks of its mailbox.
pub mod Content
