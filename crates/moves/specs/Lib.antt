pub mod Ready
pub mod Does
pub mod Deal
pub mod Promises
pub mod Unique
