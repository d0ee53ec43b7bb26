-- The command register's reader and writer for C: the fields as bytes, what each call answers and leaves, and that each undoes the other.
pub mod Calls
pub mod Bytes
pub mod Made
pub mod RoundTrip
