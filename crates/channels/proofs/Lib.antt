-- What the functions' proofs cite, and those of `moves`; each file opens with what it shows.
pub mod Heads
pub mod Ones
pub mod Single
pub mod Moving
pub mod Ranges
pub mod ServingTold
