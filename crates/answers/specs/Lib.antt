-- The answer that collecting a request writes.
pub mod Answers
