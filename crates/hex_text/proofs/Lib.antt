-- What the functions' proofs cite; each file opens with what it shows.
pub mod Digits
pub mod Opens
pub mod Rests
pub mod Unique
