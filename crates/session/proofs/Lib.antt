-- What the functions' proofs cite.
pub mod Opening
pub mod Events
pub mod Commonest
