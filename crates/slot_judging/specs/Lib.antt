-- What an occupied slot's bytes are judged to be.
pub mod Judging
pub mod Requests
pub mod Laws
