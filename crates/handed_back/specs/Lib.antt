-- What an operation's answer and what it hands back say of the world afterwards; and the answers of a refusal.
pub mod Handed
