-- What the functions' proofs cite; each file opens with what it shows.
pub mod Ends
pub mod Replays
pub mod Searching
pub mod Answers
pub mod Unique
