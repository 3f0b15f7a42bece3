pub mod Cut
pub mod Laws
pub mod Plays
pub mod PlaysAtSize
pub mod Examples
