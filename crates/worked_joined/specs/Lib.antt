-- The joined read at work, by computation: a list of calls with its answers, what it leaves, and what is claimed of it.
pub mod Joined
pub mod Handed
