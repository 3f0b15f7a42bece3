pub mod Written
pub mod Records
pub mod Judged
pub mod Room
pub mod Cutting
pub mod Promises
pub mod Orders
pub mod Unique
