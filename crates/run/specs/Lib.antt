pub mod Ahead
pub mod Run
pub mod Numbers
pub mod Items
pub mod Way
pub mod Promises
pub mod Unique
