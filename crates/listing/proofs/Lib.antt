-- What the functions' proofs cite; each file opens with what it shows.
pub mod Body
pub mod Walking
pub mod Answers
pub mod Listings
pub mod Unique
pub mod AtHand
pub mod AtOnce
