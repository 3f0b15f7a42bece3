pub mod Places
pub mod Reading
pub mod Writing
pub mod Promises
pub mod Unique
pub mod Laws
