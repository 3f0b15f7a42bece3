pub mod Answers
pub mod Pieces
pub mod Promises
pub mod Unique
