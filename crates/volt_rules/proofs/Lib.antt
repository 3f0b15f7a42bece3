-- The laws of specs/, and what the crates above cite; each file opens with what it shows.
pub mod Lists
pub mod Floats
pub mod Exact
pub mod Playing
pub mod Counting
pub mod Bounds
pub mod Tables
pub mod OfLevels
pub mod Theorems
pub mod Open
pub mod Examples
pub mod FileTables
