-- What the functions' proofs cite; each file opens with what it shows.
pub mod Digits
pub mod LineParts
pub mod Printing
pub mod Unique
