pub mod Capped
