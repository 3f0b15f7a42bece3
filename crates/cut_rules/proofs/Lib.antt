-- The laws and theorems of specs/; each file opens with what it shows.
pub mod Lists
pub mod ChosenNumbers
pub mod Given
pub mod Passing
pub mod Loading
pub mod TwoWrites
pub mod Ticks
pub mod Order
pub mod Plays
pub mod Shipped
pub mod PlaysAtSize
pub mod Examples
