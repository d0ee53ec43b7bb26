-- The mailbox bytes of document 01's requests.
pub mod Mailboxes
