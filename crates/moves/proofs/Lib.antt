-- What the functions' proofs cite; each file opens with what it shows.
pub mod Rings
pub mod Loop
pub mod Dealt
pub mod Still
pub mod Tested
pub mod Storing
pub mod Clocking
pub mod Unique
