-- The theorems and laws of specs/, and what the crates above cite; each file opens with what it shows.
pub mod Coded
pub mod Higher
pub mod Lowest
pub mod Answered
pub mod Theorems
pub mod Laws
pub mod Examples
