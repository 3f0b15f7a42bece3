-- What the functions' proofs cite, and those of other crates' loops: each file opens with what it shows.
pub mod Ways
pub mod Passing
pub mod Meeting
pub mod Advancing
pub mod Leaves
pub mod Numbers
pub mod Unique
