-- What is proved beside the functions.
pub mod Unique
