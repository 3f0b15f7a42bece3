-- The laws of specs/Laws, and what the functions' proofs cite; each file opens with what it shows.
pub mod FromFn
pub mod RowLevels
pub mod Rows
pub mod Casts
pub mod Stores
pub mod Unique
