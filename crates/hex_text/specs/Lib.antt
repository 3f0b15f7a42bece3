pub mod Promises
pub mod Unique
