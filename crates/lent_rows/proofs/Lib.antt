-- Lists of eight.
pub mod Eight
