pub mod Shortcuts
pub mod Draft
pub mod Promises
pub mod Unique
