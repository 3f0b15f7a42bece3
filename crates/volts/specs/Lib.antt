pub mod Numbered
pub mod Watching
pub mod Observing
pub mod Promises
pub mod Unique
