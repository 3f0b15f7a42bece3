-- The proof of demand 3, and of its examples; each file opens with what it shows.
pub mod Lossless
pub mod FullOnly
pub mod Lower
pub mod TwoRuns
pub mod Demand3
pub mod Premises
pub mod Computed
pub mod Examples
