pub mod Types
pub mod Calls
pub mod Misfits
pub mod Promises
pub mod Unique
