-- Which states handed in are impossible.
pub mod Possible
