-- One burst made zero, and the writes of one burst of a record that has an owner.
pub mod Maps
pub mod Owners
