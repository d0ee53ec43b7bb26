-- What waves tell by a number.
pub mod Codes
