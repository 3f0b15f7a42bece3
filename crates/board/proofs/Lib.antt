-- What the functions' proofs cite; each file opens with what it shows.
pub mod Losing
pub mod Planning
pub mod Standing
pub mod Whole
pub mod Unique
