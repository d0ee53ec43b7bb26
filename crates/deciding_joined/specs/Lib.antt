-- What the stages of a joined read ask for, and that the stages before them give it.
pub mod Named
