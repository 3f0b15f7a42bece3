pub mod Numbered
pub mod Replaying
pub mod Promises
pub mod Unique
