-- What waves show of a slot.
pub mod Values
