pub mod Ascii
pub mod TwoRuns
