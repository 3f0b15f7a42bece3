-- What the functions' proofs cite; each file opens with what it shows.
pub mod Shares
pub mod Entries
pub mod Watching
pub mod Tabling
pub mod OneRange
pub mod Threes
pub mod Unique
