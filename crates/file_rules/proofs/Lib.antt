-- The laws of specs/, and what the crates above cite; each file opens with what it shows.
pub mod Lengths
pub mod Given
pub mod Sessions
pub mod Rests
pub mod Walk
pub mod EveryKind
pub mod Numbers
pub mod Examples
pub mod Written
pub mod Rewritten
pub mod Joined
pub mod RowsGiven
pub mod WritesGiven
pub mod WriteRead
pub mod WriteExamples
pub mod Unique
