-- What proofs of every crate cite; each file opens with what it shows.
pub mod TwoRuns
