pub mod Coded
pub mod Smallest
pub mod Theorems
pub mod Laws
pub mod Examples
