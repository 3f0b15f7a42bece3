-- What the functions' proofs cite; each file opens with what it shows.
pub mod References
pub mod Unique
